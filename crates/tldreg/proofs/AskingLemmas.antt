-- What is left of the words, once the options are taken out.
use Rattle.std.proofs.Common.{◌≡◌, inl, inr, ℕ, true, false, List, [], drop, refl, map, string_bytes}
use Rattle.tldreg.specs.{declared.{command_line.Task.Task, settings.Split.Split}, inner.Asking.{AsksAll, AsksWrongly, IsSplit}}
use Rattle.tldreg.specs.inner.{Options.{AreTaken, is_among, taking}, Words.{AsksTask, options_of}}

-- ---- words that were split

module _ (words : List (List ℕ)) (split : Split) (taken : AreTaken words (taking [] split)) where
  abbrev left : List (List ℕ)
  left = drop 1 (map string_bytes split.plain.items)

  is_split : IsSplit words left split.settings
  is_split = (map string_bytes split.plain.items, refl, taken)

  pub all_asked : (task : Task) → AsksTask left task → is_among split.settings.kind (options_of task) ≡ true → AsksAll words (record { task = task; settings = split.settings })
  all_asked task asks among = (left, is_split, asks, among)

  pub too_much_asked : (task : Task) → AsksTask left task → is_among split.settings.kind (options_of task) ≡ false → AsksWrongly words
  too_much_asked task asks among = (left, split.settings, is_split, inr (task, asks, among))

  pub nothing_asked : ((task : Task) → ¬ (AsksTask left task)) → AsksWrongly words
  nothing_asked none = (left, split.settings, is_split, inl none)
