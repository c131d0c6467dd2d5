-- What a look-up leaves of a registry, and what is written to a connection of HTTP.
use Rattle.std.proofs.Common.{◌≡◌, ◌+◌, ◌<◌, ◌≤◌, ◌↔◌, ℕ, true, inl, inr, ◌⊎◌, Option, Some, None, List, [], length, take, drop, ◌++◌, Result, Ok, Err, refl, sym, ap, subst, ◌∙◌, le_refl, append-nil, take-take}
use Rattle.std.proofs.{lemmas.{List.take-append-le, Slice.take-put_mid_below}, KnownBytes.Consumes-trans}
use Rattle.std.specs.{Io.KnownBytes.{Consumes, ReadConsumes}, Prelude.IfOk}
use borrow.Rule.Slice.PartMut.{put_mid}
use lib.Seq.{take-add}
use Rattle.eppwire.proofs.{FollowLemmas.follows-itself, LateLemmas.in_time}
use Rattle.frames.specs.Clocks.{Tells}
use Rattle.model.specs.{Lapse.lapsed, Registry.Registry}
use Rattle.policy.specs.Rules.{PolicyRules}
use Rattle.rdap.specs.{Answering.{Faces, IsAnswer}, Heads.IsCut}
use Rattle.rdap.proofs.AnswerLemmas.{stands}
use Rattle.registry.specs.{declared.fault.Fault.Fault, Execution.last_call, Faces.LooksUp}
use Rattle.registry.specs.declared.fault.Fault.TheVariants as faults
use Rattle.registry.proofs.PassingSteps.{same_then}
use Rattle.server.specs.Http.{AnswersHttp, IsAnswered, IsNeeded, IsRead, IsWritten, MayShow, Passes, faces_at, faces_of}
use Rattle.server.specs.declared.http.HttpEnd.{HttpEnd}
use Rattle.server.specs.declared.http.HttpEnd.TheVariants as ends
use Rattle.books.specs.Book.{BookState}

-- ---- what a look-up leaves

-- time that passes up to a moment changes nothing of that moment
at_that_moment : (p : PolicyRules) (moment : ℕ) (old new : BookState)
    → Passes p moment old new → new.is_clean ≡ true → lapsed p moment new.content.registry ≡ lapsed p moment old.content.registry
at_that_moment p moment old new passes clean = elim (passes.registry clean) [
  | inl same ↦ ap (λ (s : Registry). lapsed p moment s) same
  | inr left ↦ same_then p moment old.content.registry new.content.registry left
]

-- a source that may have been asked once
pub left_of : {S : Type 0} (policy : S → PolicyRules) (moment : S → ℕ) (state : S → BookState) (old new : S)
    → (new ≡ old) ⊎ (Passes (policy old) (moment old) (state old) (state new) × (policy new ≡ policy old) × (moment new ≡ moment old))
    → Passes (policy old) (moment old) (state old) (state new) × (policy new ≡ policy old) × (moment new ≡ moment old)
left_of policy moment state old new (inl same) = rw same (record { registry = λ clean. inl refl; terms = λ clean. refl; follows = follows-itself (state old) }, refl, refl)
left_of policy moment state old new (inr left) = left

-- what is found is what the source shows then
pub shown_by : {X : Type 0} (lapses : ℕ → Registry → Registry) (p q : PolicyRules) (moment : ℕ) (of : Faces → X) (result : Result X Fault) (old new : BookState) → q ≡ p
    → IfOk result (λ found. LooksUp p (λ s. of (faces_of p s)) lapses moment found old new) → ((result ≡ Err faults.Moment) ↔ (last_call < moment))
    → IfOk result (λ found. (faces : Faces) → (new.is_clean ≡ true) × MayShow q moment new faces → found ≡ of faces)
shown_by lapses p q moment of (Ok found) old new same step late = λ faces shown.
    let looked = step shown.0 in
    looked.answer_is
    ∙ ap (λ (s : Registry). of (faces_of p s)) (sym (same_then p moment old.content.registry new.content.registry looked.left))
    ∙ ap (λ (r : PolicyRules). of (faces_at r moment new.content.registry)) (sym same)
    ∙ ap of (sym (shown.1 (in_time found moment late)))
shown_by lapses p q moment of (Err fault) old new same step late = tt

-- an answer by what the source shows then is one by the faces of the moment
pub answer_by : {V E : Type 0} (items : V → List ℕ) (p q : PolicyRules) (moment later : ℕ) (old new end : BookState) (head : List ℕ) (result : Result V E) → end ≡ new → q ≡ p → later ≡ moment → Passes p moment old new
    → IfOk result (λ bytes. (faces : Faces) → (new.is_clean ≡ true) × MayShow q later new faces → IsAnswer p faces head (items bytes))
    → IfOk result (λ bytes. end.is_clean ≡ true → (faces : Faces) → MayShow p moment old faces → IsAnswer p faces head (items bytes))
answer_by items p q moment later old new end head (Ok bytes) left same clock_tells passes all = λ clean faces shown.
    let still : new.is_clean ≡ true = subst (λ (b : BookState). b.is_clean ≡ true) left clean in
    let path : faces_at q later new.content.registry ≡ faces_at p moment old.content.registry =
    (λ i. faces_at (same i) (clock_tells i) new.content.registry) ∙ ap (faces_of p) (at_that_moment p moment old new passes still) in
    all faces (still, λ early. shown (subst (λ (t : ℕ). t ≤ last_call) clock_tells early) ∙ sym path)
answer_by items p q moment later old new end head (Err fault) left same clock_tells passes all = tt

-- ---- what was read of an input

-- a read that gives no byte
pub read_nothing : {E : Type 0} (a b c : Option (List ℕ)) (result : Result ℕ E) (n : ℕ) (buf old : List ℕ) → result ≡ Ok n → n ≡ 0 → Consumes a b old → ReadConsumes b c result buf → Consumes a c old
read_nothing {E} a b c result n buf old is none before read =
    let empty : ◌≡◌ {A = Result ℕ E} (Ok n) (Ok 0) = λ i. Ok (none i) in
    let given : ReadConsumes {E = E} b c (Ok 0) buf = subst (λ (r : Result ℕ E). ReadConsumes b c r buf) (is ∙ empty) read in
    subst (Consumes a c) (append-nil old) (Consumes-trans a b c old [] before given.0)

-- what more bytes are read behind what decides nothing yet
pub needs_more : (count more room : ℕ) (old piece : List ℕ) → count ≤ length old → IsCut (take count old) → IsNeeded (take (count + more) (put_mid count room old piece))
needs_more count more room old piece within cut =
    let new : List ℕ = put_mid count room old piece in
    let front : take count new ≡ take count old = take-put_mid_below _ _ _ _ _ (le_refl _) within in
    inr (take count old, take more (drop count new), take-add count more new ∙ ap (λ (l : List ℕ). l ++ take more (drop count new)) front, cut)

-- so much of what a buffer holds
pub head_of : (n room : ℕ) (read rest : List ℕ) → n ≤ length read → n ≤ room → take n (take room (read ++ rest)) ≡ take n read
head_of n room read rest fits small = take-take n room (read ++ rest) small ∙ take-append-le n read rest fits

module _ (p : PolicyRules) (clock : Option (List ℕ)) (old : BookState) (later : Option (List ℕ)) (new : BookState) where
  answered_input : (input rest : Option (List ℕ)) (read answer : List ℕ) → IsRead input rest read → IsAnswered p (Some read) clock old answer later new → IsAnswered p input clock old answer later new
  answered_input None rest read answer r is = record { moment = is.moment; clock_tells = is.clock_tells; passes = is.passes; head = is.head; agrees = tt; answer = is.answer }
  answered_input (Some bytes) None read answer r is = absurd r.bytes
  answered_input (Some bytes) (Some rest) read answer r is = record {
    moment = is.moment;
    clock_tells = is.clock_tells;
    passes = is.passes;
    head = bytes;
    agrees = refl;
    answer = λ clean faces shown. by faces (subst (λ (head : List ℕ). IsAnswer p faces head answer) is.agrees (is.answer clean faces shown));
  }
    where
      by : (faces : Faces) → IsAnswer p faces read answer → IsAnswer p faces bytes answer
      by faces clock_tells = subst (λ (head : List ℕ). IsAnswer p faces head answer) (sym r.bytes) (elim (r.enough) [
        | inl decided ↦ stands p faces read rest answer decided clock_tells
        | inr end ↦ subst (λ (head : List ℕ). IsAnswer p faces head answer) (sym (ap (λ (l : List ℕ). read ++ l) end ∙ append-nil read)) clock_tells
      ])

  pub of_input : (input rest : Option (List ℕ)) (read : List ℕ) (before after : Option (List ℕ)) (end : HttpEnd) → IsRead input rest read
      → AnswersHttp p (Some read) clock old before after later new end → AnswersHttp p input clock old before after later new end
  of_input input rest read before after ends.Answered r (written, appends, is) = (written, appends, answered_input input rest read written r is)
  of_input input rest read before after ends.Unanswered r answers = answers
  of_input input rest read before after ends.WriteFault r (written, appends, (answer, is, less)) = (written, appends, (answer, answered_input input rest read answer r is, less))

-- ---- what is written

-- an answer at one moment of the clock, of which so much is written
pub answered : {V E : Type 0} (items : V → List ℕ) (p : PolicyRules) (head : List ℕ) (clock : Option (List ℕ)) (old : BookState) (before after next : Option (List ℕ)) (new : BookState) (moment : ℕ) (answer : Result V E) (end : HttpEnd)
    → Tells clock next moment → Passes p moment old new → IfOk answer (λ bytes. new.is_clean ≡ true → (faces : Faces) → MayShow p moment old faces → IsAnswer p faces head (items bytes))
    → IsWritten items answer before after end → AnswersHttp p (Some head) clock old before after next new end
answered items p head clock old before after next new moment (Ok bytes) end clock_tells passes is wrote =
    let answer : IsAnswered p (Some head) clock old (items bytes) next new = record { moment = moment; clock_tells = clock_tells; passes = passes; head = head; agrees = refl; answer = is } in
    elim wrote [
      | inl complete ↦ rw complete.0 (items bytes, complete.1, answer)
      | inr (ends_so, (n, less, begun)) ↦ rw ends_so (take n (items bytes), begun, (items bytes, answer, (n, less, refl)))
    ]
answered items p head clock old before after next new moment (Err fault) end clock_tells passes is nothing = rw nothing.0 (nothing.1, inr (moment, clock_tells, passes))
