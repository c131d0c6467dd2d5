-- One step in a transaction after another.
use Rattle.std.proofs.Common.{◌≡◌, ◌<◌, ◌⊎◌, true, cond, Result, Ok, Err, sym, subst, ap, ◌∙◌}
use Rattle.registry.proofs.Words.{BookFault, BookFinds, BookLeavesSame, BookReads, BookState, BookStays, BookWrites, Follows, GivesUp, home, IsBack}
use Rattle.registry.proofs.{Words.{IsWithin, Memory, NoRefusal, Registry, Store, Stored, WentBack, Works}, CallsKept.{begun, follows-on}}

leaves-on : (old mid new : BookState) → BookLeavesSame old mid → BookLeavesSame mid new → BookLeavesSame old new
leaves-on old mid new first then = record {
  honest = λ honest. first.honest (then.honest honest);
  same = then.same ∙ first.same;
  ready = then.ready ∙ first.ready;
}

stays-on : (old mid new : BookState) → BookStays old mid → BookStays mid new → BookStays old new
stays-on old mid new first then = record {
  clean = λ clean. first.clean (then.clean clean);
  answers = λ was. then.answers (first.answers was);
  leaves = leaves-on old mid new first.leaves then.leaves;
}

pub within-on : (old mid new : BookState) → IsWithin old mid → IsWithin mid new → IsWithin old new
within-on old mid new first then = record {
  counted = then.counted ∙ first.counted;
  opened = then.opened;
  before = λ clean. then.before clean ∙ first.before (then.stays.clean clean);
  terms = λ clean. then.terms clean ∙ first.terms (then.stays.clean clean);
  stays = stays-on old mid new first.stays then.stays;
}

-- a change of the registry alone
pub written : (old new : BookState) (held : Stored) → held.terms ≡ old.content.terms
    → BookWrites old new held → BookStays old new → IsWithin old new
written old new held terms writes stays = record {
  counted = writes.counted;
  opened = writes.opened;
  before = writes.before;
  terms = λ clean. ap (λ (held : Stored). held.terms) (writes.content clean) ∙ terms;
  stays = stays;
}

pub only-read : (old new : BookState) → old.is_open ≡ true → BookReads old new → BookStays old new
    → IsWithin old new
only-read old new is_open reads stays = record {
  counted = reads.counted;
  opened = reads.opened ∙ is_open;
  before = reads.before;
  terms = λ clean. ap (λ (held : Stored). held.terms) (reads.content clean);
  stays = stays;
}

-- ---- where a later step gives up, the book went back to where the transaction began

-- to go back leads from a later state where it led from the earlier one
abbrev pub LeadsHome : BookState → BookState → Type 0
LeadsHome old mid = mid.is_clean ≡ true → home mid ≡ home old

pub back-later : (old mid new : BookState) → LeadsHome old mid → Follows mid new → IsBack mid new → IsBack old new
back-later old mid new leads then back = record {
  closed = back.closed;
  content = λ clean. back.content clean ∙ leads (then.clean clean);
}

pub gave-up-later : (fault : BookFault) (old mid new : BookState) → LeadsHome old mid → NoRefusal old mid
    → GivesUp fault mid new → Follows mid new → GivesUp fault old new
gave-up-later Memory old mid new leads counted gave then =
    (back-later old mid new leads then gave.0, gave.1 ∙ counted)
gave-up-later Store old mid new leads counted gave then = (
  back-later old mid new leads then gave.0,
  subst (λ n. (n < new.refused) ⊎ (new.refused ≡ 0xFFFF_FFFF_FFFF_FFFF)) counted gave.1,
)

pub went-later : (fault : BookFault) (old mid new : BookState) → old.is_open ≡ true
    → IsWithin old mid → WentBack fault mid new → WentBack fault old new
went-later fault old mid new was_open is went = (
  gave-up-later fault old mid new
      (λ clean.
      ap (λ b. cond b mid.before mid.content) is.opened ∙ is.before clean
      ∙ sym (ap (λ b. cond b old.before old.content) was_open))
      is.counted went.0 went.1.0,
  (follows-on old mid new (begun old mid is.counted is.stays) went.1.0, leaves-on old mid new is.stays.leaves went.1.1),
)

-- ---- what one step does after another

module _ {A : Type 0} where
  pub works-then : (result : Result A BookFault) (step whole : Registry → Registry → A → Type 0)
      (old mid new : BookState) → old.is_open ≡ true → IsWithin old mid
      → (mid.is_clean ≡ true → (after : Registry) (it : A)
      → step mid.content.registry after it → whole old.content.registry after it)
      → Works result step mid new → Works result whole old new
  works-then (Ok it) step whole old mid new was_open within is works = (
    within-on old mid new within works.0,
    λ clean. is (works.0.stays.clean clean) new.content.registry it (works.1 clean),
  )
  works-then (Err fault) step whole old mid new was_open within is works =
      went-later fault old mid new was_open within works

  pub finds-then : (result : Result A BookFault) (value : A)
      (whole : Registry → Registry → A → Type 0) (old mid new : BookState) → old.is_open ≡ true
      → IsWithin old mid
      → (mid.is_clean ≡ true → whole old.content.registry mid.content.registry value)
      → BookFinds result value mid new → Works result whole old new
  finds-then (Ok it) value whole old mid new was_open within is found = (
    within-on old mid new within (only-read mid new within.opened found.0 found.1.0),
    λ clean. subst (λ (held : Stored). whole old.content.registry held.registry it)
        (sym (found.0.content clean))
        (subst (λ (a : A). whole old.content.registry mid.content.registry a)
        (sym (found.1.1 clean)) (is (found.1.0.clean clean))),
  )
  finds-then (Err fault) value whole old mid new was_open within is found =
      went-later fault old mid new was_open within found
