pub mod MigratingLemmas
pub mod FileLemmas
