-- A look at what waits, in an open transaction.
use Rattle.std.proofs.Common.{◌≡◌, ℕ, true, max, length, List, ap, ◌∙◌}
use Rattle.registry.proofs.Words.{BookReads, BookState, BookStays, Due, due_by, IsBacklog, IsWithin, PolicyRules, Registry, Stored}
use Rattle.registry.proofs.StepLemmas.{only-read, within-on}

-- the clock was asked for, and then what is due by then
pub shown : (p : PolicyRules) (moment clock t count : ℕ) (due : List Due) (old mid new : BookState) → old.is_open ≡ true
    → BookReads old mid × (BookStays old mid × (mid.is_clean ≡ true → clock ≡ old.content.registry.clock)) → t ≡ max moment clock
    → BookReads mid new × (BookStays mid new × (new.is_clean ≡ true → due ≡ due_by p t mid.content.registry))
    → count ≡ length due
    → IsWithin old new × (new.is_clean ≡ true → IsBacklog p moment old.content.registry new.content.registry (record { clock = clock; due = count }))
shown p moment clock t count due old mid new was_open first is second counted =
    let within : IsWithin old mid = only-read old mid was_open first.0 first.1.0 in
    (within-on old mid new within (only-read mid new within.opened second.0 second.1.0), by)
  where
    s : Registry
    s = old.content.registry

    by : new.is_clean ≡ true → IsBacklog p moment s new.content.registry (record { clock = clock; due = count })
    by clean =
        let clock-is : clock ≡ s.clock = first.1.1 (second.1.0.clean clean) in
        let kept : mid.content ≡ old.content = first.0.content (second.1.0.clean clean) in
        let late : t ≡ max moment s.clock = is ∙ ap (max moment) clock-is in
        record {
          clock = clock-is;
          due = counted ∙ ap (λ (ds : List Due). length ds) (second.1.1 clean ∙ (λ i. due_by p (late i) (kept i).registry));
          left = ap (λ (held : Stored). held.registry) (second.0.content clean ∙ kept);
        }
