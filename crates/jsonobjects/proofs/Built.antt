-- Members that are put before all others.
use Rattle.std.proofs.Common.{Bor, map, append_assoc, ◌≡◌, ℕ, true, List, [], ◌∷◌, ◌++◌, Option, Some, None, refl, ap, ◌∙◌, arith}
use Rattle.std.proofs.lemmas.{List.map-append, Bool.and_parts}
use Rattle.std.specs.{List.list_all, Ordering.{nat_cmp, is_lt}, declared.cmp.Ordering.{Ordering, TheVariants.{Less}}}
use Rattle.std.specs.Cmp.Lexicographic.{slice_cmp}
use Rattle.jsonobjects.specs.{declared.item.Item.Item, Item.item_value, Members.{members_with, are_in_order}}
use Rattle.serde_json.specs.Data.{Data, Members, member, put}

lt_less : (o : Ordering) → is_lt o ≡ true → o ≡ Less
lt_less o e = grind (arith, e)

-- a name below all others goes first
pub put_first : (k : List ℕ) (d : Data) (ms : List (List ℕ × Option Data)) → list_all (λ later. is_lt (slice_cmp nat_cmp k later.0)) ms ≡ true
    → put k d (members_with ms) ≡ member k d (members_with ms)
put_first k d [] e = refl
put_first k d ((l, None) ∷ ms) e = put_first k d ms (and_parts _ _ e).1
put_first k d ((l, Some f) ∷ ms) e = rw (lt_less (slice_cmp nat_cmp k l) (and_parts _ _ e).0) refl

in_order_tail : (xs ys : List (List ℕ × Option Data)) → are_in_order (xs ++ ys) ≡ true → are_in_order ys ≡ true
in_order_tail [] ys e = e
in_order_tail (x ∷ xs) ys e = in_order_tail xs ys (and_parts _ _ e).1

-- the last member that is left goes before those that were put
pub put_next : (left done : List (List ℕ × Option Data)) (k : List ℕ) (o : Option Data) (d : Data) (ms : Members) → are_in_order (left ++ (k, o) ∷ done) ≡ true
    → ms ≡ members_with done → put k d ms ≡ member k d (members_with done)
put_next left done k o d ms order e =
    ap (put k d) e ∙ put_first k d done (and_parts _ _ (in_order_tail left ((k, o) ∷ done) order)).0

abbrev pub seen : List (Bor (List ℕ) × Item) → List (List ℕ × Option Data)
seen = map (λ m. (m.0.now, item_value m.1))

pub popped : (all : List (List ℕ × Option Data)) (items rest : List (Bor (List ℕ) × Item)) (name : Bor (List ℕ)) (item : Item) (done : List (List ℕ × Option Data))
    → all ≡ seen items ++ done → items ≡ rest ++ (name, item) ∷ [] → all ≡ seen rest ++ (name.now, item_value item) ∷ done
popped all items rest name item done e p =
    e ∙ ap (λ (xs : List (Bor (List ℕ) × Item)). seen xs ++ done) p
    ∙ ap (λ (xs : List (List ℕ × Option Data)). xs ++ done) (map-append (λ m. (m.0.now, item_value m.1)) rest ((name, item) ∷ []))
    ∙ append_assoc (seen rest) ((name.now, item_value item) ∷ []) done
