-- To take an edit back is to go back.
use Rattle.std.proofs.Common.{◌≡◌, ◌+◌, ◌-◌, ◌<◌, length, length-append, take, get_or, arith, List, [], ◌∷◌, ◌++◌, Option, Some, None, Result, Ok, Err, OnOk, OnErr, OnSome, refl, sym, ap, ◌∙◌}
use Rattle.std.proofs.{Math.Seq.{take-append_seam, take-length}, lemmas.{List.take_more, Option.{slice_get_within, slice_get-get_or}}}
use Rattle.std.specs.Result.{IfOk}
use Rattle.mapbook.proofs.Words.{account_edited, Edit, edited, get, names_apart, nat_cmp, nat_cmp-IsAntisymmetric, nat_cmp_total, nat_list_cmp_total}
use Rattle.mapbook.proofs.Words.{option_map, put-back, slice_cmp, slice_get, Stored, undone_all}
use Rattle.mapbook.specs.declared.edit.Edit.TheVariants as edit
use Rattle.mapbook.specs.inner.Edits.{inverse}

-- ---- what went well, and what didn't

pub on-ok : {A E : Type 0} {P Q : Type 0} (r : Result A E) → (P → Q) → OnOk r P → OnOk r Q
on-ok (Ok x) f p = f p
on-ok (Err g) f p = tt

pub on-err : {A E : Type 0} {P Q : Type 0} (r : Result A E) → (P → Q) → OnErr r P → OnErr r Q
on-err (Ok x) f p = tt
on-err (Err g) f p = f p

pub whichever : {A E : Type 0} {P Q R : Type 0} (r : Result A E) → (P → R) → (Q → R) → OnOk r P → OnErr r Q → R
whichever (Ok x) f g p q = f p
whichever (Err e) f g p q = g q

pub if-ok : {A E : Type 0} {P Q : A → Type 0} (r : Result A E) → ((x : A) → P x → Q x) → IfOk r P → IfOk r Q
if-ok (Ok x) f p = f x p
if-ok (Err g) f p = tt

pub where-found : {A : Type 0} {P : Type 0} (o : Option A) (x : A) → o ≡ Some x → OnSome o P → P
where-found None x e h = cc
where-found (Some y) x e h = h

-- ---- one edit

-- what takes an edit back goes back from where that leads
pub edited-back : (e : Edit) (s : Stored) → edited (inverse e s) (edited e s) ≡ s
edited-back (edit.Clock t) s = refl
edited-back (edit.Account r value) s = ap (λ m. record s { registry = record s.registry { accounts = m } }) (put-back nat_cmp nat_cmp_total nat_cmp-IsAntisymmetric s.registry.accounts r value)
edited-back (edit.Within r what) s =
    ap (λ m. record s { registry = record s.registry { accounts = m } })
    (put-back nat_cmp nat_cmp_total nat_cmp-IsAntisymmetric s.registry.accounts r (option_map (account_edited what) (get s.registry.accounts r)))
edited-back (edit.Contact name value) s = ap (λ m. record s { registry = record s.registry { contacts = m } }) (put-back (slice_cmp nat_cmp) nat_list_cmp_total names_apart s.registry.contacts name value)
edited-back (edit.Domain name value) s = ap (λ m. record s { registry = record s.registry { domains = m } }) (put-back (slice_cmp nat_cmp) nat_list_cmp_total names_apart s.registry.domains name value)
edited-back (edit.Host name value) s = ap (λ m. record s { registry = record s.registry { hosts = m } }) (put-back (slice_cmp nat_cmp) nat_list_cmp_total names_apart s.registry.hosts name value)
edited-back (edit.Terms value) s = refl

-- ---- all edits

-- the latest is undone first
pub undone_all-push : (us : List Edit) (u : Edit) (s : Stored) → undone_all (us ++ u ∷ []) s ≡ undone_all us (edited u s)
undone_all-push [] u s = refl
undone_all-push (v ∷ us) u s = ap (edited v) (undone_all-push us u s)

-- an edit that was made goes back to where it began
pub undone_all-made : (us vs : List Edit) (u e : Edit) (s t : Stored) → vs ≡ us ++ u ∷ [] → edited u (edited e s) ≡ s → t ≡ edited e s → undone_all vs t ≡ undone_all us s
undone_all-made us vs u e s t pushed back made =
    ap (λ (ws : List Edit). undone_all ws t) pushed ∙ undone_all-push us u t ∙ ap (undone_all us) (ap (edited u) made ∙ back)

-- what stands before the latest undoes what was made before it
pub undone_all-unmade : (us vs : List Edit) (u : Edit) (s : Stored) → vs ≡ us ++ u ∷ [] → undone_all (take (length vs - 1) vs) s ≡ undone_all us s
undone_all-unmade us vs u s pushed =
    let many : length (us ++ u ∷ []) - 1 ≡ length us = omega (arith, length-append us (u ∷ [])) in
    ap (λ (ws : List Edit). undone_all ws s) (ap (λ (xs : List Edit). take (length xs - 1) xs) pushed ∙ ap (λ n. take n (us ++ u ∷ [])) many ∙ take-append_seam us (u ∷ []))

-- ---- the latest edit

-- a list is what stands before its last item, and that
front-last : {A : Type 0} (xs : List A) (x : A) → slice_get xs (length xs - 1) ≡ Some x → xs ≡ take (length xs - 1) xs ++ x ∷ []
front-last {A} xs x e =
    let within : length xs - 1 < length xs = slice_get_within xs (length xs - 1) x e in
    let read : Some (get_or xs (length xs - 1) x) ≡ Some x = sym (slice_get-get_or xs (length xs - 1) x within) ∙ e in
    let is : get_or xs (length xs - 1) x ≡ x = cc in
    let whole : length xs - 1 + 1 ≡ length xs = omega arith in
    sym (take-length xs) ∙ ap (λ n. take n xs) (sym whole) ∙ take_more xs (length xs - 1) x within ∙ ap (λ (y : A). take (length xs - 1) xs ++ y ∷ []) is

pub undone_all-latest : (us : List Edit) (u : Edit) (s t : Stored) → slice_get us (length us - 1) ≡ Some u → t ≡ edited u s → undone_all (take (length us - 1) us) t ≡ undone_all us s
undone_all-latest us u s t last e =
    ap (undone_all (take (length us - 1) us)) e ∙ sym (undone_all-push (take (length us - 1) us) u s) ∙ ap (λ (vs : List Edit). undone_all vs s) (sym (front-last us u last))
