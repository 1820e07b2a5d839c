pub mod Gifts
pub mod GiftNumbers
pub mod GiftLeaves
pub mod MomentLeaves
pub mod GiftKinds
pub mod GiftBars
