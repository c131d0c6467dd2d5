-- What a crash leaves after one call and another.
use Rattle.std.proofs.Common.{◌≡◌, inl, inr, ⊎_elim, true, Result, Ok, Err, OnOk, List, sym, ap, subst, ◌∙◌}
use Rattle.registry.proofs.Words.{BookLeavesSame, BookState, Fault, Follows, GivesUpTo, LeavesOldOrMade, OpensTo, PolicyRules, RefusedTo, Stored}
use Rattle.registry.specs.declared.fault.Fault.TheVariants as faults
use Rattle.registry.specs.declared.fault.OpenFault.{OpenFault}
use Rattle.registry.specs.declared.fault.OpenFault.TheVariants as refusals
use Rattle.books.specs.Book.{BookKeeps, LeavesHeld, LeavesItself, LeavesOld, may_leave}
use Rattle.states.specs.States.{Has, Remains, holding}

-- nothing was tried
pub left_alone : (old new : BookState) → BookLeavesSame old new → LeavesOld old new
unfolding may_leave
left_alone old new same left may = (same.honest may.0, subst (λ (all : List (Remains Stored)). Has all left) same.same may.1)

-- a call gave up before anything was kept
pub gave_up : (makes : Stored → Stored → Type 0) (old new : BookState) → BookLeavesSame old new → LeavesOldOrMade makes old new
gave_up makes old new same left may = inl (left_alone old new same left may)

pub gave_up_by : (fault : Fault) (makes : Stored → Stored → Type 0) (old new : BookState) → BookLeavesSame old new → GivesUpTo fault makes old new
gave_up_by faults.Memory makes old new same = gave_up makes old new same
gave_up_by faults.Store makes old new same = gave_up makes old new same
gave_up_by faults.Moment makes old new same = left_alone old new same

-- what was made in the transaction is kept
pub kept_alone : {A E : Type 0} (result : Result A E) (mid new : BookState) → LeavesHeld result mid new → OnOk result (BookKeeps mid new) → OnOk result (LeavesItself new)
unfolding may_leave
kept_alone (Ok it) mid new held commits = record {
  used = held.used;
  answers = held.answers;
  alone = λ left may. held.kept left may.1 ∙ ap holding (sym (commits.content (held.answers may.0)));
}
kept_alone (Err fault) mid new held commits = tt

-- or it may have been
pub kept_or_not : {A E : Type 0} (result : Result A E) (makes : Stored → Stored → Type 0) (old mid new : BookState) → Follows old mid → BookLeavesSame old mid → (mid.is_clean ≡ true → makes old.content mid.content)
    → LeavesHeld result mid new → LeavesOldOrMade makes old new
unfolding may_leave
kept_or_not result makes old mid new follows same made held left may =
    let clean : mid.is_clean ≡ true = held.answered may.0 in
    ⊎_elim (λ before. inl (left_alone old mid same left (held.honest may.0, before))) (λ is. inr (record { clean = follows.clean clean; held = mid.content; is = is; made = made clean })) (held.tried left may.1)

pub ruleset leaving = (left_alone, gave_up, kept_alone, kept_or_not)

-- ---- a call that nothing but a look came before

pub later : (makes : Stored → Stored → Type 0) (old mid new : BookState) → Follows old mid
    → BookLeavesSame old mid → (mid.is_clean ≡ true → mid.content ≡ old.content)
    → LeavesOldOrMade makes mid new → LeavesOldOrMade makes old new
later makes old mid new follows same content then = λ left may.
    ⊎_elim (λ before. inl (left_alone old mid same left before)) (λ it. inr (record { clean = follows.clean it.clean; held = it.held; is = it.is; made = subst (λ (held : Stored). makes held it.held) (content it.clean) it.made })) (then left may)

pub refused_later : (fault : OpenFault) (p : PolicyRules) (old mid new : BookState)
    → Follows old mid → BookLeavesSame old mid → (mid.is_clean ≡ true → mid.content ≡ old.content)
    → RefusedTo fault p mid new → RefusedTo fault p old new
refused_later refusals.Policy p old mid new follows same content then = λ left may. left_alone old mid same left (then left may)
refused_later refusals.Schema p old mid new follows same content then = λ left may. left_alone old mid same left (then left may)
refused_later refusals.Memory p old mid new follows same content then =
    later (OpensTo p) old mid new follows same content then
refused_later refusals.Store p old mid new follows same content then =
    later (OpensTo p) old mid new follows same content then
