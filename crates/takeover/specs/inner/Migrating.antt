-- A registry of the schema before this one, taken over.
use Rattle.std.specs.Prelude.{◌≡◌, ◌⊎◌, Bool, true, false, List, [], ◌∷◌, map, Result, Ok, Err}
use Rattle.oldrows.specs.declared.copying.TableName.{TableName}
use Rattle.oldrows.specs.declared.copying.TableName.TheVariants.{Metas, Accounts, Contacts, Domains, Hosts, Addresses, Links, Messages, Transfers}
use Rattle.oldrows.specs.inner.Copies.{IsCopyLeft, put_rows}
use Rattle.oldrows.specs.Copies.{renumbered}
use Rattle.oldrows.specs.Stored.{IsAsked, OldState}
use Rattle.policy.specs.declared.schedule.Schedule.{Schedule}
use Rattle.policy.specs.Rules.{PolicyRules}
use Rattle.sqltables.specs.Content.{Content}
use Rattle.sqltables.specs.inner.Content.{lines_to}
use Rattle.sqltables.specs.Line.{lines}
use Rattle.states.specs.declared.fault.BookFault.{BookFault}
use Rattle.states.specs.declared.readiness.Ready.TheVariants.{Used}
use Rattle.states.specs.States.{Closes, Has, Keeps, Reads, Remains, Starts, StateOf, Stays, holding}
use Rattle.takeover.specs.declared.migrating.MigrateFault.{MigrateFault}
use Rattle.takeover.specs.declared.migrating.MigrateFault.TheVariants.{Policy, Schema, Memory, Store}
use Rattle.sqlbook.specs.Meaning.{are_right, stored_of}
use Rattle.takeover.specs.Migrating.{AreThere, fault_of, numbered_anew, lines_with_ends, suits, redated}

-- the same rows as today's tables have them
abbrev pub migrated_rows : Schedule → Content → Content
migrated_rows days xs = record xs { metas = map renumbered xs.metas; lines = lines_with_ends days xs.lines }

-- the tables with the clock and the terms, and the others but for that of lines
abbrev pub heads : List TableName
heads = Metas ∷ Accounts ∷ []

abbrev pub others : List TableName
others = Contacts ∷ Domains ∷ Hosts ∷ Addresses ∷ Links ∷ Messages ∷ Transfers ∷ []

-- lines, put with those of another database with the ends of their graces
abbrev pub put_lines : Schedule → Content → Content → Content
put_lines days from = lines_to (put_rows lines.key (lines_with_ends days from.lines))

-- in the open transaction a registry was taken over
pub record IsTakenOver (p : PolicyRules) (from read : OldState) (to written : StateOf Content) : Type 0 where
  pub asked : IsAsked from read
  pub stays : Stays to written
  pub opened : written.is_open ≡ true
  pub fits : read.is_clean ≡ true → written.is_clean ≡ true
      → suits p (stored_of from.content) ≡ true
  pub stored : read.is_clean ≡ true → written.is_clean ≡ true
      → stored_of written.content ≡ redated p (stored_of from.content)
  pub sums : read.is_clean ≡ true → written.is_clean ≡ true
      → are_right written.content ≡ are_right (numbered_anew from.content)
  pub lines_are : read.is_clean ≡ true → written.is_clean ≡ true
      → written.content.lines ≡ lines_with_ends p.days from.content.lines

-- in the open transaction it was seen that the policy doesn't suit
pub record IsRefused (p : PolicyRules) (from read : OldState) (to written : StateOf Content) : Type 0 where
  pub asked : IsAsked from read
  pub stays : Stays to written
  pub differs : read.is_clean ≡ true → written.is_clean ≡ true
      → suits p (stored_of from.content) ≡ false

abbrev pub TakesOver : Result Bool BookFault → PolicyRules → OldState → OldState → StateOf Content
    → StateOf Content → Type 0
TakesOver (Ok true) p from read to written = IsTakenOver p from read to written
TakesOver (Ok false) p from read to written = IsRefused p from read to written
TakesOver (Err fault) p from read to written = IsCopyLeft from read to written

-- ---- how the transaction ends

-- What was held isn't kept: all is undone, but a crash may leave it too. What keeps it answered until then.
pub record IsUnkept {X : Type 0} (old new : StateOf X) : Type 0 where
  pub clean : new.is_clean ≡ true → old.is_clean ≡ true
  pub closed : new.is_open ≡ false
  pub content : new.is_clean ≡ true → new.content ≡ old.before
  pub honest : new.is_honest ≡ true → old.is_honest ≡ true
  pub answered : new.is_honest ≡ true → old.is_clean ≡ true
  pub leaves : (left : Remains X) → Has new.crash_leaves left → Has old.crash_leaves left ⊎ (left ≡ holding old.content)
  pub ready : new.readiness ≡ old.readiness

-- It is kept, or not.
abbrev pub IsMigrationKept : {A X : Type 0} → Result A BookFault → StateOf X → StateOf X → Type 0
IsMigrationKept (Ok done) old new = Keeps old new
IsMigrationKept (Err fault) old new = IsUnkept old new

-- What was taken over is kept, or a commit of it failed; else all is undone.
abbrev pub EndsAs : {A : Type 0} → Result A MigrateFault → Result Bool BookFault → StateOf Content
    → StateOf Content → Type 0
EndsAs (Ok done) (Ok true) old new = Keeps old new
EndsAs (Err Memory) (Ok true) old new = IsUnkept old new
EndsAs (Err Store) (Ok true) old new = IsUnkept old new
EndsAs (Err Policy) (Ok true) old new = ⊥
EndsAs (Err Schema) (Ok true) old new = ⊥
EndsAs (Ok done) (Ok false) old new = ⊥
EndsAs (Err fault) (Ok false) old new = (fault ≡ Policy) × Closes old.before old new
EndsAs (Ok done) (Err why) old new = ⊥
EndsAs (Err fault) (Err why) old new = (fault ≡ fault_of why) × Closes old.before old new

-- ---- what is said of the whole

-- whether there is something to take, and a place to put it: exactly
pub record AreAsked (said : Bool) (from : OldState) (to asked : StateOf Content) : Type 0 where
  pub back : Reads to asked
  pub source : said ≡ true → from.readiness ≡ Used
  pub there : said ≡ true → asked.is_clean ≡ true → AreThere from to
  pub other : said ≡ false → asked.is_clean ≡ true → AreThere from to → ⊥

abbrev pub AreReady : Result Bool BookFault → OldState → StateOf Content → StateOf Content → Type 0
AreReady (Ok said) from to asked = AreAsked said from to asked
AreReady (Err fault) from to asked = (from.readiness ≡ Used) × Closes to.before to asked

-- a transaction was opened, or none is open
abbrev pub IsBegun : {A X : Type 0} → Result A BookFault → StateOf X → StateOf X → Type 0
IsBegun (Ok done) old new = Starts old new
IsBegun (Err fault) old new = Closes old.before old new
