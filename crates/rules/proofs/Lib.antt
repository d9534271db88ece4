-- Laws of the rules that edits of the rules are tried on: what a checkpoint keeps, what room is left, what a list has.
pub mod Listing
pub mod KeptLaws
pub mod RoomLaws
