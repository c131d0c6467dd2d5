-- A store of rows that is opened where a crash left another.
use Rattle.std.specs.Prelude.{◌≡◌, true, List, ⊤}
use Rattle.states.specs.declared.readiness.Ready.{Ready}
use Rattle.states.specs.declared.readiness.Ready.TheVariants.{Empty, Used, Other}
use Rattle.states.specs.States.{Has, Remains, StateOf}
use Rattle.sqltables.specs.Content.{Content}
use Rattle.sqltables.specs.Readiness.{is_numbered}

-- what was left is what is found, if it was nothing, or rows with the number of this schema
abbrev pub IsContentFoundAgain : Ready → Content → Ready → Content → Type 0
IsContentFoundAgain Empty left now content = (now ≡ Empty) × (content ≡ left)
IsContentFoundAgain Used left now content = is_numbered left.metas ≡ true → (now ≡ Used) × (content ≡ left)
IsContentFoundAgain Other left now content = ⊤

-- one of these is found
abbrev pub AreRowsReopened : List (Remains Content) → StateOf Content → Type 0
AreRowsReopened leaves s =
    (left : Remains Content) × Has leaves left
    × IsContentFoundAgain left.readiness left.content s.readiness s.content
