mod TableLemmas
mod TimeLemmas
