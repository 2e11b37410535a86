mod WaysUp
mod InParts
mod Gathered
mod Named
mod Next
mod Relinked
mod Same
