mod ReplyLemmas
mod RoomLemmas
