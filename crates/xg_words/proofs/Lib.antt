mod Left
mod Read
mod Claimed
mod Small
