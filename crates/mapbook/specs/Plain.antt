-- What records in ordered maps hold, and a book that is made of them.
use Rattle.std.specs.Prelude.{◌≡◌, ◌-◌, length, take, List, Bool, true, false, if◌then◌else◌, []}
use Rattle.states.specs.declared.readiness.Ready.{Ready}
use Rattle.states.specs.declared.readiness.Ready.TheVariants.{Empty, Used}
use Rattle.mapbook.specs.declared.edit.Edit.{Edit}
use Rattle.books.specs.declared.kept.Kept.{Kept}
use Rattle.mapbook.specs.declared.plain.Plain.{Plain}
use Rattle.books.specs.Book.{BookState, Stored}
pub use Rattle.mapbook.specs.Contents.{content_of, registry_in}
use Rattle.mapbook.specs.Edits.{edited, undone_all}
use Rattle.books.specs.Kept.{state_of}
use Rattle.books.specs.Records.{RecordsState}

-- what was held when the transaction began
abbrev pub at_begin : Plain → Stored
at_begin b = undone_all b.undo (content_of b.content)

-- there is a book in ordered maps once a transaction was kept
abbrev pub readiness_if_used : Bool → Ready
readiness_if_used used = if used then Used else Empty

abbrev pub held_by : Plain → Stored
held_by b = if b.is_open then content_of b.content else at_begin b

-- records in ordered maps take nothing wrong, and a crash leaves nothing of them
abbrev pub plain_records : Plain → RecordsState
plain_records b = record {
  content = held_by b;
  before = at_begin b;
  is_open = b.is_open;
  is_clean = true;
  is_honest = true;
  readiness = readiness_if_used b.is_used;
  crash_leaves = [];
}

-- a book in ordered maps
abbrev pub PlainBook : Type 0
PlainBook = Kept Plain

abbrev pub plain_state : PlainBook → BookState
plain_state b = state_of (plain_records b.records) false b.refused

-- nothing is left to undo but what an open transaction did
pub record IsPlainSettled (old : RecordsState) (new : Plain) : Type 0 where
  pub same : plain_records new ≡ old
  pub content : content_of new.content ≡ old.content

-- what undoes all changes but the latest
abbrev pub without_latest : List Edit → List Edit
without_latest undo = take (length undo - 1) undo

-- once the edit is made, the latest undoes it and the others what was changed before, and as long as
-- it isn't, the others lead back alone
pub record LatestUndoes (e : Edit) (old new : Plain) : Type 0 where
  pub made : undone_all new.undo (edited e (content_of new.content)) ≡ at_begin old
  pub unmade : undone_all (without_latest new.undo) (content_of new.content) ≡ at_begin old
