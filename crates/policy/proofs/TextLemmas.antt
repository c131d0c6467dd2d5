-- Reading the entries of a list one after the other.
use Rattle.std.proofs.Common.{◌≡◌, Bool, true, false, ◌||◌, ◌&&◌, ℕ, suc, ◌+◌, ◌<◌, List, [], ◌∷◌, ◌++◌, map, length, take, drop, get_or, ◌-◌, Some, None, Result, Ok, Err, refl, sym, ap, ◌∙◌, append_assoc, arith}
use Rattle.std.proofs.lemmas.{List.{append-nil, drop_more, take_all, length-drop}, Bool.or_parts}
use Rattle.std.specs.{Cmp.Lexicographic.nat_list_eq_equiv, List.{AllByRecursion, IsDistinct, list_all, list_any}, Str.bytes_eq}
use Rattle.names.specs.{Labels.is_label, Canonical.reads_as_itself}
use Rattle.toml.specs.{Data.Data, View.{items_of, view}, declared.value.Value.Value}
use Rattle.policy.specs.declared.{key.Key.Key, fault.PolicyFault.PolicyFault}
use Rattle.policy.specs.Reading.{first_twice, ◌>>=◌, Fails, as_text, text_in, texts_in, values_of}
use Rattle.policy.specs.declared.fault.PolicyFault.TheVariants as told

pub values_of-items_of : (ds : List Data) → values_of (items_of ds) ≡ ds
values_of-items_of [] = refl
values_of-items_of (d ∷ ds) = ap (λ rest. d ∷ rest) (values_of-items_of ds)

-- what was read before, and what is still read
abbrev pub with_front : {A : Type 0} → List A → Result (List A) PolicyFault → Result (List A) PolicyFault
with_front front read = read >>= λ rest. Ok (front ++ rest)

regroup : {A : Type 0} (front : List A) (x : A) (read : Result (List A) PolicyFault) → with_front front (read >>= λ rest. Ok (x ∷ rest)) ≡ with_front (front ++ x ∷ []) read
regroup front x (Ok rest) = ap (λ xs. Ok xs) (simp append_assoc)
regroup front x (Err f) = refl

pub texts_in-cons : (key : Key) (d : Data) (ds : List Data) (t : List ℕ) (front : List (List ℕ)) (all : Result (List (List ℕ)) PolicyFault) → as_text key (text_in key d) ≡ Ok t → with_front front (texts_in key (d ∷ ds)) ≡ all → with_front (front ++ t ∷ []) (texts_in key ds) ≡ all
unfolding texts_in
texts_in-cons key d ds t front all e so_far =
    let one : with_front front (texts_in key (d ∷ ds)) ≡ with_front (front ++ t ∷ []) (texts_in key ds) = rw e (regroup front t (texts_in key ds)) in
    sym one ∙ so_far

pub texts_in-nil : (key : Key) (front : List (List ℕ)) (all : Result (List (List ℕ)) PolicyFault) → with_front front (texts_in key []) ≡ all → all ≡ Ok front
unfolding texts_in
texts_in-nil key front all so_far = sym so_far ∙ ap (λ xs. Ok xs) (append-nil front)

-- a step that failed is what reading gives
pub texts_in-fails : (e : PolicyFault) (key : Key) (d : Data) (ds : List Data) (front : List (List ℕ)) (all : Result (List (List ℕ)) PolicyFault) → Fails e (as_text key (text_in key d)) → with_front front (texts_in key (d ∷ ds)) ≡ all → Fails e all
unfolding texts_in
texts_in-fails told.Memory key d ds front all h so_far = tt
texts_in-fails told.NotToml key d ds front all h so_far = sym so_far ∙ rw h refl
texts_in-fails (told.Missing k) key d ds front all h so_far = sym so_far ∙ rw h refl
texts_in-fails (told.Range k) key d ds front all h so_far = sym so_far ∙ rw h refl
texts_in-fails (told.Twice id) key d ds front all h so_far = sym so_far ∙ rw h refl

-- the entry at an index, and those after it
pub entries_left : (entries : List Value) (i : ℕ) (x : Value) → i < length entries → x ≡ get_or entries i x → map view (drop i entries) ≡ view x ∷ map view (drop (i + 1) entries)
entries_left entries i x h e = ap (map view) (drop_more entries i x h) ∙ ap (λ v. view v ∷ map view (drop (i + 1) entries)) (sym e)

pub list_any_of_map : {A B : Type 0} (p : B → Bool) (f : A → B) (xs : List A) → list_any p (map f xs) ≡ list_any (λ x. p (f x)) xs
list_any_of_map p f [] = refl
list_any_of_map p f (x ∷ xs) = ap (λ b. p (f x) || b) (list_any_of_map p f xs)

pub list_all_of_map : {A B : Type 0} (p : B → Bool) (f : A → B) (xs : List A) → list_all p (map f xs) ≡ list_all (λ x. p (f x)) xs
list_all_of_map p f [] = refl
list_all_of_map p f (x ∷ xs) = ap (λ b. p (f x) && b) (list_all_of_map p f xs)

pub length_of_map : {A B : Type 0} (f : A → B) (xs : List A) → length (map f xs) ≡ length xs
length_of_map f [] = refl
length_of_map f (x ∷ xs) = ap suc (length_of_map f xs)

-- ---- ids that stand twice

-- the texts at an index and after it
pub texts_left : (xs : List (List ℕ)) (i : ℕ) (x : List ℕ) → i < length xs → x ≡ get_or xs i x → drop i xs ≡ x ∷ drop (i + 1) xs
texts_left xs i x h e = drop_more xs i x h ∙ ap (λ v. v ∷ drop (i + 1) xs) (sym e)

-- what the comparison with the others gave, at an id and the ids after it
pub first_twice-here : (id text : List ℕ) (seen others : List (List ℕ)) (b : Bool) → b ≡ list_any (λ o. bytes_eq o text) seen → text ≡ id → seen ≡ others → b ≡ true → first_twice (id ∷ others) ≡ Some id
unfolding first_twice
first_twice-here id text seen others b e same all hit =
    let found : list_any (λ o. bytes_eq o id) others ≡ true = rw (← same, ← all) (sym e ∙ hit) in
    rw found refl

pub first_twice-later : (id text : List ℕ) (seen others : List (List ℕ)) (b : Bool) → b ≡ list_any (λ o. bytes_eq o text) seen → text ≡ id → seen ≡ others → b ≡ false → first_twice (id ∷ others) ≡ first_twice others
unfolding first_twice
first_twice-later id text seen others b e same all miss =
    let found : list_any (λ o. bytes_eq o id) others ≡ false = rw (← same, ← all) (sym e ∙ miss) in
    rw found refl

pub first_twice-none : first_twice [] ≡ None
unfolding first_twice
first_twice-none = refl

apart : (id : List ℕ) (others : List (List ℕ)) → list_any (λ o. bytes_eq o id) others ≡ false → AllByRecursion (λ o. bytes_eq id o ≡ false) others
apart id [] none = tt
apart id (o ∷ os) none =
    let parts = or_parts (bytes_eq o id) (list_any (λ o. bytes_eq o id) os) none in
    (nat_list_eq_equiv.symm id o ∙ parts.0, apart id os parts.1)

pub distinct_ids : (ids : List (List ℕ)) → first_twice ids ≡ None → IsDistinct bytes_eq ids
unfolding first_twice IsDistinct
distinct_ids [] e = tt
distinct_ids (id ∷ ids) e = by (list_any (λ o. bytes_eq o id) ids) refl (distinct_ids ids)
  where
    by : (b : Bool) → list_any (λ o. bytes_eq o id) ids ≡ b → (first_twice ids ≡ None → IsDistinct bytes_eq ids) → IsDistinct bytes_eq (id ∷ ids)
    by true found rest = absurd (let never = rw found at e in cc)
    by false none rest = (apart id ids none, rest (rw none at e))

-- all from an index on, as a slice gives it
pub all_after : {A : Type 0} (xs : List A) (n : ℕ) → take (length xs - n) (drop n xs) ≡ drop n xs
all_after xs n = take_all (length xs - n) (drop n xs) (omega (arith, length-drop n xs))

-- a label that reads as itself is one
pub is_label-reads : (text : List ℕ) → reads_as_itself text ≡ true → is_label text ≡ true
unfolding reads_as_itself
is_label-reads text reads = by (is_label text) refl
  where
    by : (b : Bool) → is_label text ≡ b → is_label text ≡ true
    by true e = e
    by false e = absurd (let never = rw e at reads in cc)
