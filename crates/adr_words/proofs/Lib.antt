mod Bare
mod Forms
mod Judged
