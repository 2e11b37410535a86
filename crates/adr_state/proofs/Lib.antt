mod ItemLengths
mod Tied
mod Alive
mod Core
mod Drafting
mod Gaps
mod Reserved
