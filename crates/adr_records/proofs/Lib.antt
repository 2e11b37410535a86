mod Framing
mod Heads
mod Anew
mod Making
mod Adoption
mod Left
mod Seen
