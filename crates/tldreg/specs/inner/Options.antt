-- What the options of a command line say, among its other words.
use Rattle.std.specs.Prelude.{◌≡◌, ◌⊎◌, ◌<◌, ◌≤◌, ◌*◌, ◌&&◌, ℕ, zero, suc, Bool, true, false, not, List, [], ◌∷◌, ◌++◌, map, string_bytes, nat_eq, Option, Some, None, Result, Ok, Err, ⊤, bytes_eq, codes, if◌then◌else◌}
use Rattle.std.specs.Str.Parse.{IsNumeral, digits_value, without_leading_plus}
use Rattle.std.specs.Duration.{as_nanos}
use Rattle.std.specs.List.{starts_with}
use Rattle.wires.specs.inner.Lateness.{nanos_of, usual}
use Rattle.tldreg.specs.declared.settings.Split.{Split}
use Rattle.std.specs.declared.time.Duration.{Duration}
use Rattle.script.specs.declared.exit.Exit.{Exit}
use Rattle.script.specs.declared.exit.Exit.TheVariants as exits
use Rattle.tldreg.specs.declared.settings.OptionKind.{OptionKind}
use Rattle.tldreg.specs.declared.settings.OptionKind.TheVariants as kinds
use Rattle.tldreg.specs.declared.settings.Settings.{Settings}
use Rattle.wires.specs.declared.limits.Limits.{Limits}

-- a number from 1 to the most in digits, with a plus before them or none
abbrev pub IsCount : ℕ → List ℕ → ℕ → Type 0
IsCount most word number =
    IsNumeral 10 (without_leading_plus word)
    × (digits_value 10 (without_leading_plus word) ≡ number) × (0 < number) × (number ≤ most)

-- the limits where an option of this name says another time, if there is such an option
abbrev pub with_limit : Limits → List ℕ → Duration → Option Limits
with_limit limits name time =
    if bytes_eq name (codes "--first") then Some (record limits { first = time })
    else (if bytes_eq name (codes "--head") then Some (record limits { head = time })
    else (if bytes_eq name (codes "--frame") then Some (record limits { frame = time })
    else (if bytes_eq name (codes "--login") then Some (record limits { login = time })
    else (if bytes_eq name (codes "--pause") then Some (record limits { pause = time })
    else (if bytes_eq name (codes "--still") then Some (record limits { still = time })
    else (if bytes_eq name (codes "--session") then Some (record limits { session = time })
    else None))))))

-- ---- what an option with a value says

-- which options there were, with one of all jobs that have a database
abbrev pub with_within : OptionKind → OptionKind
with_within kinds.None = kinds.OnDatabase
with_within kinds.OnDatabase = kinds.OnDatabase
with_within kinds.Serving = kinds.Serving

-- so many days: two hundred years at most
abbrev pub SaysDays : Settings → (value : List ℕ) → Settings → Type 0
SaysDays old value new =
    (days : ℕ) × IsCount 73049 value days
    × (new ≡ record old { within = Some days; kind = with_within old.kind })

-- a limit in seconds: a day at most
abbrev pub SaysLimit : Settings → (name value : List ℕ) → Settings → Type 0
SaysLimit old name value new =
    (seconds : ℕ) × IsCount 86400 value seconds
    × (time : Duration) × (as_nanos time ≡ seconds * 1000000000)
    × (limits : Limits) × (with_limit old.limits name time ≡ Some limits)
    × (new ≡ record old { limits = limits; kind = kinds.Serving })

-- what is said with this option and its value, after what was said before
abbrev pub Says : Settings → (name value : List ℕ) → Settings → Type 0
Says old name value new =
    ((name ≡ codes "--within") × SaysDays old value new) ⊎ SaysLimit old name value new

-- An option says it. Where it says nothing, it is a wrong command line.
abbrev pub IsSet : (Settings → Type 0) → Settings → Result ⊤ Exit → Type 0
IsSet Says new (Ok done) = Says new
IsSet Says new (Err exit) = (exit ≡ exits.Usage) × ((settings : Settings) → ¬ (Says settings))

-- options of one kind are among those of another
abbrev pub is_among : OptionKind → OptionKind → Bool
is_among kinds.None kind = true
is_among kinds.OnDatabase kinds.None = false
is_among kinds.OnDatabase kinds.OnDatabase = true
is_among kinds.OnDatabase kinds.Serving = true
is_among kinds.Serving kinds.None = false
is_among kinds.Serving kinds.OnDatabase = false
is_among kinds.Serving kinds.Serving = true

-- ---- options among words

-- Words that begin so are options. Those that ask for a text alone are words.
abbrev pub is_option : List ℕ → Bool
is_option word =
    starts_with nat_eq word (codes "--") && (not (bytes_eq word (codes "--help")) && not (bytes_eq word (codes "--version")))

-- what is said without options
abbrev pub IsUsual : Settings → Type 0
IsUsual settings =
    (settings.within ≡ None) × (settings.is_quiet ≡ false)
    × (nanos_of settings.limits ≡ map (λ seconds. seconds * 1000000000) usual)
    × (settings.kind ≡ kinds.None)

-- what is said with `--quiet`, after what was said before
abbrev pub quiet : Settings → Settings
quiet old = record old { is_quiet = true; kind = kinds.Serving }

-- words to be taken, those that were no options, and what the options said
pub record Taking : Type 0 where
  pub words : List (List ℕ)
  pub plain : List (List ℕ)
  pub settings : Settings

-- one is taken that is no option
abbrev pub TakesPlain : Taking → Taking → Type 0
TakesPlain old new =
    (word : List ℕ) × (is_option word ≡ false) × (old.words ≡ word ∷ new.words)
    × (new.plain ≡ old.plain ++ word ∷ []) × (new.settings ≡ old.settings)

-- one is taken that is an option without a value
abbrev pub TakesQuiet : Taking → Taking → Type 0
TakesQuiet old new =
    (old.words ≡ codes "--quiet" ∷ new.words)
    × (new.plain ≡ old.plain) × (new.settings ≡ quiet old.settings)

-- two are taken: an option and its value
abbrev pub TakesValue : Taking → Taking → Type 0
TakesValue old new =
    (name value : List ℕ) × (is_option name ≡ true) × (old.words ≡ name ∷ value ∷ new.words)
    × (new.plain ≡ old.plain) × Says old.settings name value new.settings

-- the next of the words are taken
abbrev pub TakesNext : Taking → Taking → Type 0
TakesNext old new = TakesPlain old new ⊎ (TakesQuiet old new ⊎ TakesValue old new)

-- the next word is an option that lacks its value, or says nothing with it
abbrev pub IsWrong : Taking → Type 0
IsWrong it =
    (name : List ℕ) × (is_option name ≡ true) × ¬ (name ≡ codes "--quiet")
    × ((it.words ≡ name ∷ [])
    ⊎ ((value : List ℕ) × (words : List (List ℕ)) × (it.words ≡ name ∷ value ∷ words) × ((settings : Settings) → ¬ (Says it.settings name value settings))))

-- how far a splitting has come, with these words left
abbrev pub taking : List (List ℕ) → Split → Taking
taking words split = record { words = words; plain = map string_bytes split.plain.items; settings = split.settings }

-- The next of these words are taken, unless memory ran out. Where they can't be, it is a wrong command line.
abbrev pub TakesWord : List (List ℕ) → Split → List (List ℕ) → Split → Result ⊤ Exit → Type 0
TakesWord words old rest new (Ok done) = TakesNext (taking words old) (taking rest new)
TakesWord words old rest new (Err exit) = (exit ≡ exits.Memory) ⊎ ((exit ≡ exits.Usage) × IsWrong (taking words old))

-- so many times
abbrev pub TakesTimes : ℕ → Taking → Taking → Type 0
TakesTimes zero old new = new ≡ old
TakesTimes (suc n) old new = (between : Taking) × TakesTimes n old between × TakesNext between new

-- words are taken, up to here
abbrev pub AreTaken : List (List ℕ) → Taking → Type 0
AreTaken words it =
    (settings : Settings) × IsUsual settings × (n : ℕ) × TakesTimes n (record { words = words; plain = []; settings = settings }) it

-- they aren't, since one is wrong
abbrev pub HasWrong : List (List ℕ) → Type 0
HasWrong words = (it : Taking) × AreTaken words it × IsWrong it

-- what words are split into, unless memory ran out. Where they aren't, it is a wrong command line.
abbrev pub SplitsWords : List (List ℕ) → Result Split Exit → Type 0
SplitsWords words (Ok split) = AreTaken words (taking [] split)
SplitsWords words (Err exit) = (exit ≡ exits.Memory) ⊎ ((exit ≡ exits.Usage) × HasWrong words)
