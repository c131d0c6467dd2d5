-- What the words of a command line ask for. Words that ask for nothing are a wrong command line.
use Rattle.std.specs.Prelude.{◌≡◌, ◌<◌, ℕ, ℤ, List, [], ◌∷◌, Option, None, Some, Result, Ok, Err, ⊤, FitsSigned, codes, map, string_bytes}
use Rattle.std.specs.Int.{w64}
use Rattle.std.specs.Str.Parse.{IsNumeral, digits_value, signed_digits_value, without_leading_plus, without_leading_sign}
use Rattle.std.specs.Vec.Iter.{into_iter_items}
use Rattle.std.specs.declared.alloc.Global.{Global}
use Rattle.std.specs.declared.string.String.{String}
use Rattle.std.specs.declared.vec.IntoIter.{IntoIter}
use Rattle.calendar.specs.Moment.{IsMoment}
use Rattle.calendar.specs.Text.{moment_text}
use Rattle.script.specs.declared.exit.Exit.{Exit}
use Rattle.script.specs.declared.exit.Exit.TheVariants.{Usage}
use Rattle.tldreg.specs.declared.command_line.Job.{Job}
use Rattle.tldreg.specs.declared.command_line.Job.TheVariants.{Serve, ServeBoth, Zone, Deposit, Order}
use Rattle.tldreg.specs.declared.settings.OptionKind.{OptionKind}
use Rattle.tldreg.specs.declared.settings.OptionKind.TheVariants as kinds
use Rattle.tldreg.specs.declared.command_line.Task.{Task}
use Rattle.tldreg.specs.declared.command_line.Task.TheVariants.{Help, Version, Run, Migrate, OnDatabase}

-- ---- what a word is

-- a port: a number from 1 to 65535 in digits, with a plus before them or none
abbrev pub IsPort : List ℕ → ℕ → Type 0
IsPort word port =
    IsNumeral 10 (without_leading_plus word)
    × (digits_value 10 (without_leading_plus word) ≡ port) × (0 < port) × (port < 65536)

-- a moment's text
abbrev pub IsMomentText : List ℕ → ℕ → Type 0
IsMomentText word moment = IsMoment moment × (word ≡ moment_text moment)

-- a number of cents: a whole number of 64 bits in digits, with a sign before them or none
abbrev pub IsCents : List ℕ → ℤ → Type 0
IsCents word cents =
    IsNumeral 10 (without_leading_sign word)
    × (signed_digits_value 10 word ≡ cents) × FitsSigned w64 cents

-- ---- what words ask for

-- the words after the port ask for this with it: nothing more, or the operator's port and the file of its token
abbrev pub AsksServing : ℕ → List (List ℕ) → Job → Type 0
AsksServing port words (Serve served) = (words ≡ []) × (served ≡ port)
AsksServing port words (ServeBoth served operator_port token_file) =
    (word : List ℕ) × (words ≡ word ∷ string_bytes token_file ∷ []) × IsPort word operator_port × (served ≡ port)
AsksServing port words (Zone moment) = ⊥
AsksServing port words (Deposit moment registrar cents) = ⊥
AsksServing port words (Order moment json) = ⊥

-- the words ask for this job with the registry of a database
abbrev pub AsksJob : List (List ℕ) → (policy database : List ℕ) → Job → Type 0
AsksJob words policy database (Serve port) =
    (word : List ℕ) × (words ≡ codes "serve" ∷ policy ∷ database ∷ word ∷ []) × IsPort word port
AsksJob words policy database (ServeBoth port operator_port token_file) =
    (word second : List ℕ)
    × (words ≡ codes "serve" ∷ policy ∷ database ∷ word ∷ second ∷ string_bytes token_file ∷ [])
    × IsPort word port × IsPort second operator_port
AsksJob words policy database (Zone moment) =
    (word : List ℕ) × (words ≡ codes "zone" ∷ policy ∷ database ∷ word ∷ []) × IsMomentText word moment
AsksJob words policy database (Deposit moment registrar cents) =
    (word number : List ℕ)
    × (words ≡ codes "deposit" ∷ policy ∷ database ∷ word ∷ string_bytes registrar ∷ number ∷ [])
    × IsMomentText word moment × IsCents number cents
AsksJob words policy database (Order moment json) =
    (word : List ℕ) × (words ≡ codes "order" ∷ policy ∷ database ∷ word ∷ string_bytes json ∷ []) × IsMomentText word moment

-- the words after the program's name ask for this task
abbrev pub AsksTask : List (List ℕ) → Task → Type 0
AsksTask words Help = words ≡ codes "--help" ∷ []
AsksTask words Version = words ≡ codes "--version" ∷ []
AsksTask words (Run policy) = words ≡ codes "run" ∷ string_bytes policy ∷ []
AsksTask words (Migrate policy from to) =
    words ≡ codes "migrate" ∷ string_bytes policy ∷ string_bytes from ∷ string_bytes to ∷ []
AsksTask words (OnDatabase policy database job) =
    AsksJob words (string_bytes policy) (string_bytes database) job

-- the moment that a job is given; that of serving is the machine's
abbrev pub moment_of_job : Job → Option ℕ
moment_of_job (Serve port) = None
moment_of_job (ServeBoth port operator_port token_file) = None
moment_of_job (Zone moment) = Some moment
moment_of_job (Deposit moment registrar cents) = Some moment
moment_of_job (Order moment json) = Some moment

-- which options a task takes
abbrev pub options_of : Task → OptionKind
options_of Help = kinds.None
options_of Version = kinds.None
options_of (Run policy) = kinds.None
options_of (Migrate policy from to) = kinds.None
options_of (OnDatabase policy database (Serve port)) = kinds.Serving
options_of (OnDatabase policy database (ServeBoth port operator_port token_file)) = kinds.Serving
options_of (OnDatabase policy database (Zone moment)) = kinds.OnDatabase
options_of (OnDatabase policy database (Deposit moment registrar cents)) = kinds.OnDatabase
options_of (OnDatabase policy database (Order moment json)) = kinds.OnDatabase

-- ---- how they are read

-- What there is is read. Where there is none, it is a wrong command line.
abbrev pub ReadsOrUsage : {X : Type 0} → (X → Type 0) → Result X Exit → Type 0
ReadsOrUsage Is (Ok x) = Is x
ReadsOrUsage {X} Is (Err exit) = (exit ≡ Usage) × ((x : X) → ¬ (Is x))

-- the words that are still to come
abbrev pub texts : IntoIter (String Global) Global → List (List ℕ)
texts words = map string_bytes (into_iter_items words)

-- the next of these words was taken
abbrev pub IsNext : List (List ℕ) → Result (String Global) Exit → List (List ℕ) → Type 0
IsNext old (Ok word) new = old ≡ string_bytes word ∷ new
IsNext old (Err exit) new = (exit ≡ Usage) × (old ≡ [])

-- no word is left
abbrev pub IsEnd : List (List ℕ) → Result ⊤ Exit → Type 0
IsEnd words (Ok done) = words ≡ []
IsEnd words (Err exit) = (exit ≡ Usage) × ¬ (words ≡ [])
