-- What is due: an object that time changes or removes, and when it first does.
use Rattle.std.specs.Prelude.{ℕ, List, fold, Option, Some, None, option_and_then}
use Rattle.std.specs.BTreeSet.{insert_key}
use Rattle.std.specs.Cmp.Lexicographic.{slice_cmp}
use Rattle.std.specs.Ordering.{nat_cmp, on, then_cmp}
use Rattle.std.specs.declared.cmp.Ordering.{Ordering}
use Rattle.accounts.specs.Lines.{object_rank}
use Rattle.lifecycle.specs.Lapse.{completes_at, due_at}
use Rattle.lifecycle.specs.Periods.{passed}
use Rattle.lifecycle.specs.declared.due_object.Due.{Due}
use Rattle.objects.specs.declared.contact.Contact.{Contact}
use Rattle.objects.specs.declared.domain.Domain.{Domain}
use Rattle.objects.specs.declared.roid.ObjectKind.{ObjectKind}
use Rattle.objects.specs.declared.roid.ObjectKind.TheVariants as kinds
use Rattle.policy.specs.Rules.{PolicyRules}

-- ---- the order in which objects lapse: by moment, contacts first, by name

abbrev pub kind_rank : ObjectKind → ℕ
kind_rank kind = object_rank kind

abbrev pub due_cmp : Due → Due → Ordering
due_cmp =
    then_cmp (then_cmp
    (on (λ (d : Due). d.due) nat_cmp)
    (on (λ (d : Due). object_rank d.kind) nat_cmp))
    (on (λ (d : Due). d.name) (slice_cmp nat_cmp))

-- ---- an object that is due by a moment

abbrev pub due_then : ObjectKind → List ℕ → Option ℕ → Option Due
due_then kind name None = None
due_then kind name (Some due) = Some (record { due = due; kind = kind; name = name })

-- a contact is due where a transfer is pending (RFC 5733, 3.2.4)
abbrev pub contact_due : ℕ → List ℕ × Contact → Option Due
contact_due t e =
    due_then kinds.Contact e.0 (option_and_then (passed t) (completes_at e.1.transfer))

abbrev pub domain_due : PolicyRules → ℕ → List ℕ × Domain → Option Due
domain_due p t e = due_then kinds.Domain e.0 (passed t (due_at p e.1))

-- ---- several

abbrev pub with_due : Option Due → List Due → List Due
with_due None found = found
with_due (Some due) found = insert_key due_cmp found due

-- what a test finds due of some objects, in the order of all that was found
abbrev pub found_due : {X : Type 0} → (X → Option Due) → List Due → List X → List Due
found_due test found objects = fold (λ found x. with_due (test x) found) found objects
