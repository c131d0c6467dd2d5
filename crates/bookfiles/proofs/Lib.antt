pub mod RestartLemmas
pub mod UnopenedLemmas
