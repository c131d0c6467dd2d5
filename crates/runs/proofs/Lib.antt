pub mod SettlementLemmas
pub mod MoneyLemmas
pub mod PrivacyLemmas
pub mod CrashLemmas
