mod Results
mod Bounding
mod Orders
mod Calling
mod Telling
mod Keeps
