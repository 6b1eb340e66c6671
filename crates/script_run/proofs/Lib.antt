pub mod CountLemmas
pub mod EndLemmas
pub mod FollowLemmas
pub mod GoingLemmas
pub mod LeftLemmas
pub mod LineLemmas
pub mod OpenLemmas
pub mod PlayerLemmas
pub mod ReplayLemmas
pub mod RoomLemmas
pub mod ScriptLemmas
pub mod SeatLemmas
pub mod ServedLemmas
pub mod SpeakerLemmas
mod StatementLemmas
