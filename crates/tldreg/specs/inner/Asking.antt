-- What a whole command line asks for: its options are taken out, and the other words ask for a task.
use Rattle.std.specs.Prelude.{◌≡◌, ◌⊎◌, ℕ, true, false, List, [], drop, Result, Ok, Err}
use Rattle.script.specs.declared.exit.Exit.{Exit}
use Rattle.script.specs.declared.exit.Exit.TheVariants as exits
use Rattle.tldreg.specs.declared.command_line.Asked.{Asked}
use Rattle.tldreg.specs.declared.command_line.Task.{Task}
use Rattle.tldreg.specs.declared.settings.Settings.{Settings}
use Rattle.tldreg.specs.inner.Options.{AreTaken, HasWrong, is_among}
use Rattle.tldreg.specs.inner.Words.{AsksTask, options_of}

-- the options are taken out of the words, and say this; these words are left behind the program's name
abbrev pub IsSplit : List (List ℕ) → (left : List (List ℕ)) → Settings → Type 0
IsSplit words left settings =
    (plain : List (List ℕ)) × (left ≡ drop 1 plain)
    × AreTaken words (record { words = []; plain = plain; settings = settings })

-- the words ask for this task, and say this by options that it takes
abbrev pub AsksAll : List (List ℕ) → Asked → Type 0
AsksAll words asked =
    (left : List (List ℕ)) × IsSplit words left asked.settings
    × AsksTask left asked.task × (is_among asked.settings.kind (options_of asked.task) ≡ true)

-- what is left asks for nothing, or for a task that doesn't take these options
abbrev pub AsksWrongly : List (List ℕ) → Type 0
AsksWrongly words =
    (left : List (List ℕ)) × (settings : Settings) × IsSplit words left settings
    × (((task : Task) → ¬ (AsksTask left task))
    ⊎ ((task : Task) × AsksTask left task × (is_among settings.kind (options_of task) ≡ false)))

-- What there is is read, unless memory ran out. Else it is a wrong command line.
abbrev pub ReadsAll : List (List ℕ) → Result Asked Exit → Type 0
ReadsAll words (Ok asked) = AsksAll words asked
ReadsAll words (Err exit) =
    (exit ≡ exits.Memory) ⊎ ((exit ≡ exits.Usage) × (HasWrong words ⊎ AsksWrongly words))
