-- Accounts are opened one after another, and a book once it is known to be ours.
use Rattle.std.proofs.Common.{◌≡◌, ◌≢◌, ℕ, suc, ◌+◌, true, false, cond, Result, Ok, Err, [], ◌∷◌, ◌++◌, refl, sym, ap, ◌∙◌, arith}
use Rattle.registry.proofs.Words.{BookFinds, BookReads, BookState, Follows, Memory, OpensAny, OpensOurs, PolicyRules, Store, terms_of}
use Rattle.registry.proofs.{CallsKept.{begun, follows-on}, CrashLemmas.refused_later, StepLemmas.{LeadsHome, back-later, gave-up-later}}
use Rattle.registry.specs.declared.fault.OpenFault.{OpenFault}
use Rattle.registry.specs.Opening.{IsOthers, IsOurs, Opens, Refuses, RefusesOurs, goes_on, opened, openings}
use Rattle.registry.specs.declared.fault.OpenFault.TheVariants as refusals
use Rattle.states.specs.declared.readiness.Ready.{Ready, TheVariants.Other}
use Rattle.decisions.specs.declared.change.Change.TheVariants.{OpenAccount}

pub openings_zero : openings 0 ≡ []
unfolding openings
openings_zero = refl

pub openings_next : (n : ℕ) → openings (n + 1) ≡ openings n ++ OpenAccount (n + 1) ∷ []
unfolding openings
openings_next n = let next : n + 1 ≡ suc n = omega arith in rw next refl

-- ---- a book that was only looked at

-- to go back leads where it led
home-same : (old mid : BookState) → BookReads old mid → old.is_open ≡ false → LeadsHome old mid
home-same old mid same closed clean =
    ap (λ b. cond b mid.before mid.content) (same.opened ∙ closed) ∙ same.content clean ∙ sym (ap (λ b. cond b old.before old.content) closed)

pub is_others : (old new : BookState) → BookReads old new → old.is_open ≡ false → (new.is_clean ≡ true → Other ≡ old.readiness) → IsOthers old new
is_others old new same closed found = record {
  back = record { closed = same.opened ∙ closed; content = λ clean. same.content clean ∙ sym (ap (λ b. cond b old.before old.content) closed) };
  counted = same.counted;
  other = λ clean. sym (found clean);
}

opens_later : (p : PolicyRules) (old mid new : BookState) → BookReads old mid → Follows mid new
    → Opens p mid new → Opens p old new
opens_later p old mid new same then opens = record {
  counted = opens.counted ∙ same.counted;
  closed = opens.closed;
  content = λ clean. opens.content clean ∙ ap (opened p) (same.content (then.clean clean));
  fits = λ clean. sym (ap (goes_on (terms_of p)) (same.content (then.clean clean))) ∙ opens.fits clean;
}

refuses_later : (fault : OpenFault) (p : PolicyRules) (old mid new : BookState)
    → old.is_open ≡ false → BookReads old mid → Follows mid new → Refuses fault p mid new
    → fault ≢ refusals.Schema → Refuses fault p old new
refuses_later refusals.Policy p old mid new closed same then refused other = record {
  back = back-later old mid new (home-same old mid same closed) then refused.back;
  differs = λ clean. sym (ap (goes_on (terms_of p)) (same.content (then.clean clean))) ∙ refused.differs clean;
}
refuses_later refusals.Schema p old mid new closed same then refused other = absurd (other refl)
refuses_later refusals.Memory p old mid new closed same then refused other = gave-up-later Memory old mid new (home-same old mid same closed) same.counted refused then
refuses_later refusals.Store p old mid new closed same then refused other = gave-up-later Store old mid new (home-same old mid same closed) same.counted refused then

is_ours : (ready : Ready) (old mid new : BookState) → ready ≢ Other
    → (mid.is_clean ≡ true → ready ≡ old.readiness) → Follows mid new → IsOurs old new
is_ours ready old mid new differs found then clean other = differs (found (then.clean clean) ∙ other)

refuses_ours : (fault : OpenFault) (old new : BookState) → IsOurs old new
    → RefusesOurs fault old new
refuses_ours refusals.Policy old new ours = ours
refuses_ours refusals.Schema old new ours = tt
refuses_ours refusals.Memory old new ours = tt
refuses_ours refusals.Store old new ours = tt

-- what is seen first is whether it is ours
pub opens_after : {A : Type 0} (result : Result A OpenFault) (ready : Ready) (p : PolicyRules)
    (old mid new : BookState)
    → old.is_open ≡ false → ready ≢ Other → BookFinds (Ok ready) old.readiness old mid
    → OpensOurs result p mid new → OpensAny result p old new
opens_after (Ok it) ready p old mid new closed ours looked opens =
    let follows : Follows old mid = begun old mid looked.0.counted looked.1.0 in (
      opens_later p old mid new looked.0 opens.1.1 opens.0,
      (
        is_ours ready old mid new ours looked.1.1 opens.1.1,
        (opens.1.0, follows-on old mid new follows opens.1.1),
      ),
    )
opens_after (Err fault) ready p old mid new closed ours looked refused =
    let follows : Follows old mid = begun old mid looked.0.counted looked.1.0 in
    let then = refused.1.1.1 in
    record {
      refuses = refuses_later fault p old mid new closed looked.0 then refused.0 refused.1.0;
      ours = refuses_ours fault old new (is_ours ready old mid new ours looked.1.1 then);
      crash = refused_later fault p old mid new follows looked.1.0.leaves looked.0.content
          refused.1.1.0;
      follows = follows-on old mid new follows then;
    }
