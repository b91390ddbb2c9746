pub mod SizeShares
