pub mod Filling
mod Rising
mod Leaves
mod Touching
mod Following
mod Sizes
mod FirstLeaves
