pub mod SameLists
