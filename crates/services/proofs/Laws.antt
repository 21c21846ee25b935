pub mod SameCase
