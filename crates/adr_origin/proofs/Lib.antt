pub mod FirstOf
mod InLiveParts
mod InParts
mod Living
mod Superiors
mod LinkInParts
