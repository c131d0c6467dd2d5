-- What is found after a crash is what a run leaves.
use Rattle.std.proofs.Common.{◌≡◌, ◌⊎◌, inl, inr, ⊎_elim, Bool, true, false, List, [], ◌∷◌, ◌++◌, Some, Result, Ok, Err, IfOk, OnOk, cond, refl, sym, ap, subst, ◌∙◌}
use Rattle.std.proofs.Math.Logic.{∥∥₁_map, ∥∥₁_map₂}
use Rattle.model.specs.Registry.{Registry}
use Rattle.policy.specs.{Rules.PolicyRules, declared.terms.Terms.Terms, Terms.terms_of}
use Rattle.registry.specs.{declared.fault.{Fault.Fault, OpenFault.OpenFault}, Crashes.{Makes, RefusedTo}, Execution.SameTerms}
use Rattle.registry.specs.Opening.{Refuses}
use Rattle.registry.specs.declared.fault.Fault.TheVariants as faults
use Rattle.registry.specs.declared.fault.OpenFault.TheVariants as refusals
use Rattle.books.specs.Book.{BookState, Follows, LeavesItself, LeavesOldOrMade, Stored, may_leave}
use Rattle.books.specs.Reopening.{IsBook, IsFound, IsFoundAgain, LeavesFound}
use Rattle.states.specs.{declared.readiness.Ready.{Ready, TheVariants.{Empty, Used, Other}}, States.{Has, Remains}}
use Rattle.runs.specs.Crashes.{Call, Event, AreMade, Happen, Happened, Happens, ComeTo, CallLeadsTo, WereMade, answered, asking, crash, gave_up, opening, refused, settling}
use Rattle.runs.specs.CrashLaws.{CrashesLeaveRuns, CrashesLeftRuns, EventsGoOn, IsCarriedOut, TakenLeaveFound, event_of, refusal_event}

-- `Past` tells what was come to, with a call made that a crash has to show, or with none

-- once a call more answered
abbrev after_answer : (Bool → Stored → Type 0) → Call → Bool → Stored → Type 0
after_answer Past call false s = (first : Stored) × Past false first × CallLeadsTo call first s
after_answer Past call true s = ⊥

-- once one more gave up
abbrev after_fault : (Bool → Stored → Type 0) → Call → Bool → Stored → Type 0
after_fault Past call false s = Past false s
after_fault Past call true s = Past true s ⊎ ((first : Stored) × Past false first × CallLeadsTo call first s)

-- once the machine stopped
abbrev after_crash : (Bool → Stored → Type 0) → Bool → Stored → Type 0
after_crash Past false s = Past false s ⊎ Past true s
after_crash Past true s = ⊥

-- from what was come to, these events lead here
abbrev Comes : (Bool → Stored → Type 0) → List Event → Stored → Type 0
Comes Past events found = (shows : Bool) × (first : Stored) × Past shows first × (calls : List Call) × WereMade shows events calls × AreMade calls first found

comes-answered : (Past : Bool → Stored → Type 0) (call : Call) (events : List Event) (found : Stored) → Comes (after_answer Past call) events found → Comes Past (answered call ∷ events) found
comes-answered Past call events found (true, first, never, calls, were, made) = absurd never
comes-answered Past call events found (false, s, past, calls, were, made) = (false, past.0, past.1, call ∷ calls, (refl, calls, refl, were), (s, past.2, made))

comes-fault : (Past : Bool → Stored → Type 0) (call : Call) (events : List Event) (found : Stored) → Comes (after_fault Past call) events found → Comes Past (gave_up call ∷ events) found
comes-fault Past call events found (false, s, past, calls, were, made) = (false, s, past, calls, inl were, made)
comes-fault Past call events found (true, s, inl past, calls, were, made) = (true, s, past, calls, inl were, made)
comes-fault Past call events found (true, s, inr past, calls, were, made) = (false, past.0, past.1, call ∷ calls, inr (refl, calls, refl, were), (s, past.2, made))

comes-refused : (Past : Bool → Stored → Type 0) (call : Call) (events : List Event) (found : Stored) → Comes Past events found → Comes Past (refused call ∷ events) found
comes-refused Past call events found (shows, s, past, calls, were, made) = (shows, s, past, calls, were, made)

comes-crash : (Past : Bool → Stored → Type 0) (events : List Event) (found : Stored) → Comes (after_crash Past) events found → Comes Past (crash ∷ events) found
comes-crash Past events found (true, s, never, calls, were, made) = absurd never
comes-crash Past events found (false, s, inl past, calls, were, made) = (false, s, past, calls, were, made)
comes-crash Past events found (false, s, inr past, calls, were, made) = (true, s, past, calls, were, made)

-- what a call made is a registry that was opened
opened-by : (call : Call) (before after : Stored) → CallLeadsTo call before after → (terms : Terms) × (after.terms ≡ Some terms)
opened-by (opening p) before after leads = (terms_of p, ap (λ (held : Stored). held.terms) leads.1)
opened-by (asking p moment q) before after leads = (terms_of p, leads.1.1 ∙ leads.0)
opened-by (settling p moment at_most) before after leads = (terms_of p, leads.1.1 ∙ leads.0)

-- what was left was come to, with a call made that a crash has to show or without, and is a book
record WasLeft (Past : Bool → Stored → Type 0) (left : Remains Stored) : Type 0 where
  pub past : Past false left.content ⊎ Past true left.content
  pub is : IsBook left.readiness left.content

-- what a book holds was come to, and so was what a crash leaves of it
record Stands (Past : Bool → Stored → Type 0) (s : BookState) : Type 0 where
  pub held : s.is_clean ≡ true → Past false s.content
  pub left : (left : Remains Stored) → may_leave s left → WasLeft Past left

record Reaches (Past : Bool → Stored → Type 0) (events : List Event) (s : BookState) : Type 0 where
  pub held : s.is_clean ≡ true → Comes Past events s.content
  pub left : (left : Remains Stored) → may_leave s left → Comes Past (events ++ crash ∷ []) left.content

honest-of : (s : BookState) (left : Remains Stored) → may_leave s left → s.is_honest ≡ true
unfolding may_leave
honest-of s left may = may.0

-- of a book that was taken up a crash leaves what was found
found : (Past : Bool → Stored → Type 0) (s : BookState) → (s.is_clean ≡ true → Past false s.content) → (s.is_clean ≡ true → IsBook s.readiness s.content) → LeavesFound s → Stands Past s
found Past s held is leaves = record {
  held = held;
  left = λ left may.
      let it = leaves left may in
      subst (WasLeft Past) (sym it.1) (record { past = inl (held it.0); is = is it.0 });
}

-- once a call answered, what it made
alone : (Past : Bool → Stored → Type 0) (s : BookState) → (s.is_clean ≡ true → Past false s.content) → (s.is_clean ≡ true → IsBook Used s.content) → LeavesItself s → Stands Past s
alone Past s held is leaves = record {
  held = held;
  left = λ left may.
      let clean : s.is_clean ≡ true = leaves.answers (honest-of s left may) in
      subst (WasLeft Past) (sym (leaves.alone left may)) (record { past = inl (held clean); is = is clean });
}

-- what was left is found again
again : (r : Ready) (left : Stored) (new : BookState) → IsBook r left → IsFoundAgain r left new → IsFound r left new
again Empty left new is it = it
again Used left new is it = it is.0 is.1
again Other left new is it = absurd is

may-of : (s : BookState) (left : Remains Stored) → s.is_honest ≡ true → Has s.crash_leaves left → may_leave s left
unfolding may_leave
may-of s left honest has = (honest, has)

same-book : (left : Remains Stored) (s : BookState) → IsFound left.readiness left.content s → IsBook left.readiness left.content → IsBook s.readiness s.content
same-book left s it is = subst (λ (r : Ready). IsBook r s.content) (sym it.ready) (subst (IsBook left.readiness) (sym it.content) is)

reaches : (Past : Bool → Stored → Type 0) (events : List Event) (old new : BookState) → Stands Past old → Happen events old new → Reaches Past events new
reaches Past [] old new is_at same =
    subst (Reaches Past []) (sym same) (record {
      held = λ clean. (false, old.content, is_at.held clean, [], (refl, refl), refl);
      left = λ left may. ⊎_elim (λ past. (false, left.content, past, [], (refl, refl), refl)) (λ past. (true, left.content, past, [], (refl, refl), refl)) (is_at.left left may).past;
    })
reaches Past (answered call ∷ events) old new is_at (mid, happens, rest) =
    let more : Reaches (after_answer Past call) events new = reaches (after_answer Past call) events mid new
    (alone (after_answer Past call) mid (λ clean. (old.content, is_at.held (happens.0.clean clean), happens.1 clean)) (λ clean. opened-by call old.content mid.content (happens.1 clean)) happens.2) rest in
    record { held = λ clean. comes-answered Past call events _ (more.held clean); left = λ left may. comes-answered Past call (events ++ crash ∷ []) left.content (more.left left may) }
reaches Past (refused call ∷ events) old new is_at (mid, happens, rest) =
    let now : Stands Past mid = record {
      held = λ clean. subst (Past false) (sym (happens.1 clean)) (is_at.held (happens.0.clean clean));
      left = λ left may. is_at.left left (happens.2 left may);
    } in
    let more : Reaches Past events new = reaches Past events mid new now rest in
    record { held = λ clean. comes-refused Past call events _ (more.held clean); left = λ left may. comes-refused Past call (events ++ crash ∷ []) left.content (more.left left may) }
reaches Past (gave_up call ∷ events) old new is_at (mid, happens, rest) =
    let now : Stands (after_fault Past call) mid = record {
      held = λ clean. subst (Past false) (sym (happens.1 clean)) (is_at.held (happens.0.clean clean));
      left = λ left may. ⊎_elim
          (λ before. let was = is_at.left left before in record { past = ⊎_elim (λ past. inl past) (λ past. inr (inl past)) was.past; is = was.is })
          (λ it. subst (WasLeft (after_fault Past call)) (sym it.is) (record { past = inr (inr (old.content, is_at.held it.clean, it.made)); is = opened-by call old.content it.held it.made }))
          (happens.2 left may);
    } in
    let more : Reaches (after_fault Past call) events new = reaches (after_fault Past call) events mid new now rest in
    record { held = λ clean. comes-fault Past call events _ (more.held clean); left = λ left may. comes-fault Past call (events ++ crash ∷ []) left.content (more.left left may) }
reaches Past (crash ∷ events) old new is_at (mid, happens, rest) =
    let left : Remains Stored = happens.1.0 in
    let was : WasLeft Past left = is_at.left left (may-of old left happens.0 happens.1.1) in
    let it : IsFound left.readiness left.content mid = again left.readiness left.content mid was.is happens.1.2 in
    let more : Reaches (after_crash Past) events new = reaches (after_crash Past) events mid new
    (found (after_crash Past) mid (λ clean. subst (after_crash Past false) (sym it.content) was.past) (λ clean. same-book left mid it was.is) happens.2) rest in
    record { held = λ clean. comes-crash Past events _ (more.held clean); left = λ left may. comes-crash Past (events ++ crash ∷ []) left.content (more.left left may) }

-- ---- from what was held at first

abbrev at_first : Stored → Bool → Stored → Type 0
at_first first false s = s ≡ first
at_first first true s = ⊥

found-of : (first : Stored) (events : List Event) (found : Stored) → Comes (at_first first) events found → ComeTo events first found
found-of first events found (true, s, never, calls, were, made) = absurd never
found-of first events found (false, s, past, calls, were, made) = (calls, were, subst (λ t. AreMade calls t found) past made)

pub crashes-leave-runs : CrashesLeaveRuns
crashes-leave-runs events old new taken happen =
    let first : Stored = old.content in
    let it : Reaches (at_first first) events new = reaches (at_first first) events old new (found (at_first first) old (λ clean. refl) taken.is taken.leaves) happen in
    (λ left may. found-of first (events ++ crash ∷ []) left.content (it.left left may), λ clean. found-of first events _ (it.held clean))

happen-all : (events : List Event) (old new : BookState) → Happened events old new → ∥ Happen events old new ∥₁
happen-all [] old new same = ∣ same ∣₁
happen-all (event ∷ events) old new (between, first, rest) = ∥∥₁_map₂ first (happen-all events between new rest) (λ first rest. (between, first, rest))

pub crashes-left-runs : CrashesLeftRuns
crashes-left-runs events old new taken happened = (
  λ left may. ∥∥₁_map (happen-all events old new happened) (λ happen. (crashes-leave-runs events old new taken happen).0 left may),
  λ clean. ∥∥₁_map (happen-all events old new happened) (λ happen. (crashes-leave-runs events old new taken happen).1 clean),
)

pub events-go-on : EventsGoOn
events-go-on [] later old mid new same rest = subst (λ s. Happened later s new) same rest
events-go-on (event ∷ events) later old mid new (between, first, more) rest = (between, first, events-go-on events later between mid new more rest)

-- ---- calls are events

-- one that gave up
gave-way : (p : PolicyRules) (call : Call) (makes : Stored → Stored → Type 0) (old new : BookState)
    → ((before after : Stored) → before.terms ≡ Some (terms_of p) → makes before after → CallLeadsTo call before after)
    → (old.is_clean ≡ true → old.content.terms ≡ Some (terms_of p)) → Follows old new → (new.is_clean ≡ true → new.content ≡ old.content) → LeavesOldOrMade makes old new
    → Happens (gave_up call) old new
gave-way p call makes old new leads kept follows same outcome =
    (follows, same, λ found may. ⊎_elim (λ before. inl before) (λ it. inr (record { clean = it.clean; held = it.held; is = it.is; made = leads old.content it.held (kept it.clean) it.made })) (outcome found may))

-- whatever a call answers, it is an event, where what its contract says it makes is what that event says
pub carried-out : {A : Type 0} (p : PolicyRules) (call : Call) (makes : Stored → Stored → Type 0) (result : Result A Fault) (old new : BookState)
    → ((before after : Stored) → before.terms ≡ Some (terms_of p) → makes before after → CallLeadsTo call before after)
    → OnOk result (new.is_clean ≡ true → makes old.content new.content) → IsCarriedOut p result makes old new → Happens (event_of result call) old new
carried-out p call makes (Ok it) old new leads step done = (done.follows, λ clean. leads old.content new.content (done.kept (done.follows.clean clean)) (step clean), done.crash)
carried-out p call makes (Err faults.Memory) old new leads step done = gave-way p call makes old new leads done.kept done.follows done.fault.0.content done.crash.0
carried-out p call makes (Err faults.Store) old new leads step done = gave-way p call makes old new leads done.kept done.follows done.fault.0.content done.crash.0
carried-out p call makes (Err faults.Moment) old new leads step done = (done.follows, done.fault.0.content, done.crash.0)

-- what is made is a step, under the same terms
pub stepped : {A : Type 0} (step : Registry → Registry → A → Type 0) (result : Result A Fault) (old new : BookState)
    → IfOk result (λ it. new.is_clean ≡ true → step old.content.registry new.content.registry it) → OnOk result (SameTerms old new)
    → OnOk result (new.is_clean ≡ true → Makes step old.content new.content)
stepped step (Ok it) old new taken terms = λ clean. ((it, taken clean), terms clean)
stepped step (Err fault) old new taken terms = tt

-- a book that is taken up
pub taken-leave-found : TakenLeaveFound
unfolding may_leave
taken-leave-found s answers leaves left may =
    let clean : s.is_clean ≡ true = answers may.0 in
    (clean, ⊎_elim (λ is. is) (λ none. absurd none) (subst (λ (all : List (Remains Stored)). Has all left) (leaves clean) may.1))

-- a book that isn't opened goes back to what it held
home-is : (old new : BookState) → old.is_open ≡ false → (new.is_clean ≡ true → new.content ≡ cond old.is_open old.before old.content) → new.is_clean ≡ true → new.content ≡ old.content
home-is old new closed back clean = back clean ∙ ap (λ b. cond b old.before old.content) closed

pub refused-opening : (fault : OpenFault) (p : PolicyRules) (old new : BookState) → old.is_open ≡ false → Refuses fault p old new → RefusedTo fault p old new → Follows old new → Happens (refusal_event fault (opening p)) old new
refused-opening refusals.Policy p old new closed it left follows = (follows, home-is old new closed it.back.content, left)
refused-opening refusals.Schema p old new closed it left follows = (follows, home-is old new closed it.back.content, left)
refused-opening refusals.Memory p old new closed it left follows = (follows, home-is old new closed it.0.content, left)
refused-opening refusals.Store p old new closed it left follows = (follows, home-is old new closed it.0.content, left)
