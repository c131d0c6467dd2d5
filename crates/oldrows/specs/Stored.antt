-- The tables of the schema before this one: those of today, without the lengths that are in force from a
-- moment on, and without the ends of lines' graces.
use Rattle.std.specs.Prelude.{◌≡◌, Bool, true, List}
use Rattle.states.specs.declared.readiness.Ready.{Ready}
use Rattle.states.specs.States.{Remains}
use Rattle.sqltables.specs.Content.{Content}

-- What is held, whether nothing wrong was ever taken from what keeps it and it still answers, whether nothing
-- wrong was ever taken from it, whether it is a registry of that schema, and all that an opening may find by its
-- tables after a crash of the machine now. Nothing is ever written, so there is no transaction.
pub record OldState : Type 0 where
  pub content : Content
  pub is_clean : Bool
  pub is_honest : Bool
  pub readiness : Ready
  pub crash_leaves : List (Remains Content)

-- What keeps it answers, as long as nothing wrong was ever taken from it.
abbrev pub Answers : OldState → Type 0
Answers s = s.is_honest ≡ true → s.is_clean ≡ true

-- Whatever a call does: the same is held, and a crash may leave just what it might have left before.
pub record IsRead (old new : OldState) : Type 0 where
  pub clean : new.is_clean ≡ true → old.is_clean ≡ true
  pub honest : new.is_honest ≡ true → old.is_honest ≡ true
  pub content : new.is_clean ≡ true → new.content ≡ old.content
  pub ready : new.readiness ≡ old.readiness
  pub leaves : new.crash_leaves ≡ old.crash_leaves

-- The call answered: what answered before still does.
pub record IsAsked (old new : OldState) : Type 0 where
  pub reads : IsRead old new
  pub answers : Answers old → Answers new
