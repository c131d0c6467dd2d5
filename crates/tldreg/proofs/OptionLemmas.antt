-- Options are taken out of words.
use Rattle.std.proofs.Common.{◌≡◌, ◌⊎◌, inl, inr, ℕ, zero, suc, true, List, [], ◌∷◌, Some, None, Result, Ok, Err, ◌<◌, ◌≤◌, refl, sym, ap, ◌∙◌, map, length, arith, codes, string_bytes}
use Rattle.std.specs.Prelude.{⊤}
use Rattle.script.specs.declared.exit.Exit.{Exit}
use Rattle.script.specs.declared.exit.Exit.TheVariants as exits
use Rattle.tldreg.specs.declared.settings.{Settings.Settings, Split.Split}
use Rattle.tldreg.specs.inner.Options.{AreTaken, HasWrong, IsSet, IsWrong, IsUsual, Says, SaysDays, SaysLimit, TakesNext, TakesWord, Taking, is_option, with_limit}

-- how many days were said
pub days_set : (old new : Settings) (name value : List ℕ) (r : Result ⊤ Exit) → name ≡ codes "--within" → IsSet (SaysDays old value) new r → IsSet (Says old name value) new r
days_set old new name value (Ok done) named is = inl (named, is)
days_set old new name value (Err exit) named is = (is.0, λ settings said. go settings said)
  where
    go : (settings : Settings) → Says old name value settings → ⊥
    go settings (inl says) = is.1 settings says.1
    go settings (inr (seconds, count, time, nanos, limits, those, same)) =
        let none : None ≡ Some limits = sym (ap (λ n. with_limit old.limits n time) named) ∙ those in
        cc

-- a limit was
pub limit_set : (old new : Settings) (name value : List ℕ) (r : Result ⊤ Exit) → ¬ (name ≡ codes "--within") → IsSet (SaysLimit old name value) new r → IsSet (Says old name value) new r
limit_set old new name value (Ok done) other is = inr is
limit_set old new name value (Err exit) other is = (is.0, λ settings said. go settings said)
  where
    go : (settings : Settings) → Says old name value settings → ⊥
    go settings (inl says) = other says.0
    go settings (inr says) = is.1 settings says

-- an option was taken with its value
pub took_value : (name value : List ℕ) (words rest : List (List ℕ)) (old new : Split) (r : Result ⊤ Exit) → is_option name ≡ true → ¬ (name ≡ codes "--quiet")
    → words ≡ value ∷ rest → new.plain ≡ old.plain → IsSet (Says old.settings name value) new.settings r → TakesWord (name ∷ words) old rest new r
took_value name value words rest old new (Ok done) is other next same says =
    inr (inr (name, value, is, ap (λ (ws : List (List ℕ)). name ∷ ws) next, (λ i. map string_bytes (same i).items), says))
took_value name value words rest old new (Err exit) is other next same says =
    inr (says.0, (name, is, other, inr (value, rest, ap (λ (ws : List (List ℕ)). name ∷ ws) next, says.1)))

-- nothing was taken yet
pub none_taken : (words : List (List ℕ)) (it : Taking) → IsUsual it.settings → it.words ≡ words → it.plain ≡ [] → AreTaken words it
none_taken words it usual same none = (it.settings, usual, zero, (λ i. record { words = same i; plain = none i; settings = it.settings }))

-- one time more
pub more_taken : (words : List (List ℕ)) (old new : Taking) → AreTaken words old → TakesNext old new → AreTaken words new
more_taken words old new (settings, usual, n, times) takes = (settings, usual, suc n, (old, times, takes))

-- what is left grows less
pub fewer : (old new : Taking) → TakesNext old new → length new.words < length old.words
fewer old new (inl (word, is, words, plain, settings)) = omega (arith, ap length words)
fewer old new (inr (inl (words, plain, settings))) = omega (arith, ap length words)
fewer old new (inr (inr (name, value, is, words, plain, says))) = omega (arith, ap length words)

-- a word was wrong, or memory ran out
pub gone_wrong : (words : List (List ℕ)) (it : Taking) (exit : Exit) → AreTaken words it → ((exit ≡ exits.Memory) ⊎ ((exit ≡ exits.Usage) × IsWrong it)) → (exit ≡ exits.Memory) ⊎ ((exit ≡ exits.Usage) × HasWrong words)
gone_wrong words it exit taken (inl memory) = inl memory
gone_wrong words it exit taken (inr (usage, wrong)) = inr (usage, (it, taken, wrong))

pub no_more : (words : List (List ℕ)) → length words ≤ 0 → words ≡ []
no_more [] none = refl
no_more (word ∷ words) none = absurd (omega arith)
