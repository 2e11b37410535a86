mod FormedLinks
mod Gathered
mod LiveObjects
mod LiveParts
mod YoungestNames
mod NextRow
mod PairByPair
mod FoundSeen
