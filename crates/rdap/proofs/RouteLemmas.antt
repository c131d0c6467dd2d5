-- The route that is found for a path is the one that the definition of a request says.
use Rattle.std.proofs.Common.{Bor, ◌≡◌, ℕ, zero, suc, ◌+◌, ◌-◌, ◌<◌, ◌≤◌, le_refl, List, [], ◌∷◌, ◌++◌, length, drop, take, Option, Some, None, Bool, true, false, cond, get_or, refl, sym, ap, subst, ◌∙◌, arith, nat_eq, ◌==◌, codes, ltb, leb}
use Rattle.std.proofs.lemmas.{Bool.Decides.nat_tests, List.{length-append, take-append-drop, take_all}, Slice.Eq.bytes_eq-Decides}
use Rattle.std.proofs.{lemmas.Str.{IsCharBoundary-after_ascii, IsUtf8-drop}, Math.Seq.drop-append_seam}
use Rattle.std.specs.{Prelude.{MatchOption, ◌&&◌, ◌||◌, not, if◌then◌else◌, unwrap_or}, List.list_all, Str.{IsUtf8, bytes_eq}}
use Rattle.http.specs.Token.{IsToken, is_token_byte}
use Rattle.matchit.specs.{Level.IsText, Params.{AllText, named, part_of, walk, wild_from, wild_stop}, Router.RouteOf}
use Rattle.matchit.specs.{Rows.{RowsOf, catch_all_token, param_token}, Seek.{first, or_else, param_step, seek, step}}
use Rattle.matchit.specs.Seek as seeks
use Rattle.rdap.proofs.RequestLemmas.{plain_is_text}
use Rattle.rdap.specs.Requests.{has_slash, is_segment, request_at, segment, segment_below}
use Rattle.rdap.specs.{Routes.{below, name_of, request_for, routes, fixed_route}, declared.request.Request.TheVariants.Refused}
use Rattle.rdap.specs.declared.{wire.Outcome.TheVariants.NotFound, routes.Kind.{Kind, TheVariants.{Domain, Nameserver, Entity, Help}}}

abbrev Route : Type 0
Route = RouteOf Kind

-- ---- a walk over no row

else_none : (a : Option Route) → or_else a None ≡ a
else_none None = refl
else_none (Some r) = refl

no_param : (path : List ℕ) → (param_step {K = Route} [] path).1 ≡ []
unfolding param_step
no_param path =
    elim (seeks.has_slash path) as (λ v. (cond {A = ℕ × RowsOf Route} v (0, []) (length path, [])).1 ≡ []) [
      | true ↦ refl
      | false ↦ refl
    ]

no_row : (n : ℕ) (path : List ℕ) → seek {K = Route} n [] path ≡ None
unfolding seek
no_row n [] = refl
no_row (suc n) (b ∷ path) = no_row n path
no_row zero (b ∷ path) = simp (no_row 0 path, no_param (b ∷ path), no_row ((param_step {K = Route} [] (b ∷ path)).0 - 1) path)

-- ---- over rows that go on with bytes

-- where no row goes on with a parameter, the next byte decides
next_byte : (rs : RowsOf Route) (b : ℕ) (path : List ℕ) → step param_token rs ≡ [] → step catch_all_token rs ≡ [] → seek 0 rs (b ∷ path) ≡ seek 0 (step b rs) path
unfolding seek
next_byte rs b path no_name no_rest = simp (no_name, no_rest, no_param (b ∷ path), no_row ((param_step {K = Route} [] (b ∷ path)).0 - 1) path, else_none)

-- a row that begins with bytes, for a path that begins with them
behind : (w t : List ℕ) (r : Route) (path : List ℕ) → IsText w → seek 0 ((w ++ t, r) ∷ []) path ≡ cond (bytes_eq (take (length w) path) w) (seek 0 ((t, r) ∷ []) (drop (length w) path)) None
unfolding seek
behind [] t r path bytes = refl
behind (x ∷ w) t r [] bytes = refl
behind (x ∷ w) t r (y ∷ path) bytes =
    let name : (x == param_token) ≡ false = grind (arith, nat_tests, bytes.0) in
    let rest : (x == catch_all_token) ≡ false = grind (arith, nat_tests, bytes.0) in
    next_byte ((x ∷ w ++ t, r) ∷ []) y path (ap (λ (v : Bool). cond v ((w ++ t, r) ∷ []) []) name) (ap (λ (v : Bool). cond v ((w ++ t, r) ∷ []) []) rest) ∙ by (x == y) refl (behind w t r path bytes.1)
  where
    by : (v : Bool) → (x == y) ≡ v → seek 0 ((w ++ t, r) ∷ []) path ≡ cond (bytes_eq (take (length w) path) w) (seek 0 ((t, r) ∷ []) (drop (length w) path)) None
        → seek 0 (cond (x == y) ((w ++ t, r) ∷ []) []) path ≡ cond (bytes_eq (y ∷ take (length w) path) (x ∷ w)) (seek 0 ((t, r) ∷ []) (drop (length w) path)) None
    by true e below =
        let same : nat_eq y x ≡ true = grind (arith, nat_tests) in
        rw (e, same) below
    by false e below =
        let other : nat_eq y x ≡ false = grind (arith, nat_tests) in
        rw (e, other) (no_row 0 path)

-- ---- over a row that ends with a parameter

same_slash : (path : List ℕ) → seeks.has_slash path ≡ has_slash path
same_slash [] = refl
same_slash (b ∷ path) = by (b == 47) (same_slash path)
  where
    by : (v : Bool) → seeks.has_slash path ≡ has_slash path → cond v true (seeks.has_slash path) ≡ (v || has_slash path)
    by true e = refl
    by false e = e

all_skipped : (r : Route) (path : List ℕ) → seek (length path) (([], r) ∷ []) path ≡ Some r
unfolding seek
all_skipped r [] = refl
all_skipped r (b ∷ path) = all_skipped r path

last_param : (r : Route) (path : List ℕ) → param_step (([], r) ∷ []) path ≡ cond (seeks.has_slash path) (0, []) (length path, ([], r) ∷ [])
unfolding param_step
last_param r path = refl

-- what is found beyond the first byte of a segment
beyond : (r : Route) (b : ℕ) (path : List ℕ)
    → seek ((param_step (([], r) ∷ []) (b ∷ path)).0 - 1) (param_step (([], r) ∷ []) (b ∷ path)).1 path ≡ cond (is_segment (b ∷ path)) (Some r) None
beyond r b path =
    let filled : (length (b ∷ path) == 0) ≡ false = grind (arith, nat_tests) in
    rw (last_param r (b ∷ path), filled) (by (seeks.has_slash (b ∷ path)) (same_slash (b ∷ path)))
  where
    by : (v : Bool) → v ≡ has_slash (b ∷ path)
        → seek ((cond {A = ℕ × RowsOf Route} v (0, []) (suc (length path), ([], r) ∷ [])).0 - 1) (cond {A = ℕ × RowsOf Route} v (0, []) (suc (length path), ([], r) ∷ [])).1 path ≡ cond (not (has_slash (b ∷ path))) (Some r) None
    by true e = rw (sym e) (no_row 0 path)
    by false e =
        let one : suc (length path) - 1 ≡ length path = omega arith in
        rw (sym e, one) (all_skipped r path)

-- nothing goes on behind the end of a row
ended : (r : Route) (b : ℕ) (path : List ℕ) → seek 0 (([], r) ∷ []) (b ∷ path) ≡ None
ended r b path = next_byte (([], r) ∷ []) b path refl refl ∙ no_row 0 path

-- a number that stands for a parameter is no other name than one by that parameter
stray : (r : Route) (b : ℕ) (path : List ℕ) → b ≡ param_token → or_else (seek 0 (([], r) ∷ []) path) (cond (is_segment (b ∷ path)) (Some r) None) ≡ cond (is_segment (b ∷ path)) (Some r) None
unfolding seek
stray r b [] is = rw is refl
stray r b (c ∷ path) is = ap (λ (o : Option Route). or_else o (cond (is_segment (b ∷ c ∷ path)) (Some r) None)) (ended r c path)

-- what a parameter at the end takes: one segment that isn't empty
taken : (r : Route) (path : List ℕ) → seek 0 ((param_token ∷ [], r) ∷ []) path ≡ cond (is_segment path) (Some r) None
unfolding seek
taken r [] = refl
taken r (b ∷ path) =
    ap (λ (o : Option Route). or_else (seek 0 (cond (param_token == b) (([], r) ∷ []) []) path) (or_else o None)) (beyond r b path)
    ∙ ap (λ (o : Option Route). or_else (seek 0 (cond (param_token == b) (([], r) ∷ []) []) path) o) (else_none (cond (is_segment (b ∷ path)) (Some r) None))
    ∙ by (param_token == b) refl
  where
    by : (v : Bool) → (param_token == b) ≡ v → or_else (seek 0 (cond v (([], r) ∷ []) []) path) (cond (is_segment (b ∷ path)) (Some r) None) ≡ cond (is_segment (b ∷ path)) (Some r) None
    by true e =
        let is : b ≡ param_token = grind (arith, nat_tests) in
        stray r b path is
    by false e = ap (λ (o : Option Route). or_else o (cond (is_segment (b ∷ path)) (Some r) None)) (no_row 0 path)

-- ---- the rows of the registry's routes

abbrev found : Route → Option (List ℕ) → Option Route
found r None = None
found r (Some name) = Some r

folder_row : (w : List ℕ) (r : Route) (path : List ℕ) → IsText w → seek 0 ((w ++ param_token ∷ [], r) ∷ []) path ≡ found r (segment_below w path)
folder_row w r path bytes = behind w (param_token ∷ []) r path bytes ∙ by (bytes_eq (take (length w) path) w)
  where
    within : (v : Bool) (name : List ℕ) → cond v (Some r) None ≡ found r (if v then Some name else None)
    within true name = refl
    within false name = refl

    by : (v : Bool) → cond v (seek 0 ((param_token ∷ [], r) ∷ []) (drop (length w) path)) None ≡ found r (segment (if v then Some (drop (length w) path) else None))
    by true = taken r (drop (length w) path) ∙ within (is_segment (drop (length w) path)) (drop (length w) path)
    by false = refl

whole_row : (w : List ℕ) (r : Route) (path : List ℕ) → IsText w → seek 0 ((w, r) ∷ []) path ≡ cond (bytes_eq path w) (Some r) None
unfolding seek
whole_row [] r [] bytes = refl
whole_row [] r (y ∷ path) bytes = ended r y path
whole_row (x ∷ w) r [] bytes = refl
whole_row (x ∷ w) r (y ∷ path) bytes =
    let name : (x == param_token) ≡ false = grind (arith, nat_tests, bytes.0) in
    let rest : (x == catch_all_token) ≡ false = grind (arith, nat_tests, bytes.0) in
    next_byte ((x ∷ w, r) ∷ []) y path (ap (λ (v : Bool). cond v ((w, r) ∷ []) []) name) (ap (λ (v : Bool). cond v ((w, r) ∷ []) []) rest) ∙ by (x == y) refl (whole_row w r path bytes.1)
  where
    by : (v : Bool) → (x == y) ≡ v → seek 0 ((w, r) ∷ []) path ≡ cond (bytes_eq path w) (Some r) None
        → seek 0 (cond (x == y) ((w, r) ∷ []) []) path ≡ cond (bytes_eq (y ∷ path) (x ∷ w)) (Some r) None
    by true e below =
        let same : nat_eq y x ≡ true = grind (arith, nat_tests) in
        rw (e, same) below
    by false e below =
        let other : nat_eq y x ≡ false = grind (arith, nat_tests) in
        rw (e, other) (no_row 0 path)

-- ---- what is asked for

-- a path without a route asks for nothing; one with a route, for what the route says of its name
abbrev pub Routed : List ℕ → Option (RouteOf Kind) → Type 0
Routed path None = request_at path ≡ Refused NotFound
Routed path (Some r) = AllText (walk r.pattern r.text path r.names 0 0) × (request_for r.value (name_of r path) ≡ request_at path)

-- what follows a folder is all that is left of the path
rest_part : (folder name : List ℕ) → part_of (folder ++ name) (length folder) (length (folder ++ name)) ≡ name
rest_part folder name =
    let len : length (folder ++ name) ≡ length folder + length name = length-append folder name in
    let within : leb (length folder) (length (folder ++ name)) ≡ true = grind (arith, nat_tests) in
    let fixed_route : leb (length (folder ++ name)) (length (folder ++ name)) ≡ true = grind (arith, nat_tests) in
    let more : length (folder ++ name) - length folder ≡ length name = omega (arith, len) in
    rw (within, fixed_route, more, drop-append_seam folder name) (take_all (length name) name (le_refl (length name)))

is_text : (w : List ℕ) → list_all (λ b. ltb b 256) w ≡ true → IsText w
is_text [] e = tt
is_text (b ∷ w) e = by (ltb b 256) refl e (is_text w)
  where
    by : (v : Bool) → ltb b 256 ≡ v → (v && list_all (λ b. ltb b 256) w) ≡ true → (list_all (λ b. ltb b 256) w ≡ true → IsText w) → IsText (b ∷ w)
    by true is rest others = (grind (arith, nat_tests), others rest)
    by false is rest others = absurd cc

pair_of : {A B : Type 0} (a c : A) (b d : B) → a ≡ c → b ≡ d → ◌≡◌ {A = A × B} (a, b) (c, d)
pair_of a c b d p q = λ i. (p i, q i)

-- the parameter behind a folder is found behind as many bytes
to_param : (folder : List ℕ) (len token at : ℕ) → IsText folder → at + length folder ≤ len → wild_from (folder ++ param_token ∷ []) len token at ≡ (token + length folder, at + length folder)
to_param [] len token at bytes room = pair_of token (token + 0) at (at + 0) (omega arith) (omega arith)
to_param (x ∷ folder) len token at bytes room =
    let byte : ltb x param_token ≡ true = grind (arith, nat_tests, bytes.0) in
    let more : ltb at len ≡ true = grind (arith, nat_tests, room) in
    let next : (token + 1) + length folder ≡ token + suc (length folder) = omega arith in
    let place : (at + 1) + length folder ≡ at + suc (length folder) = omega arith in
    rw (byte, more) (to_param folder len (token + 1) (at + 1) bytes.1 (omega (arith, room)) ∙ pair_of _ _ _ _ next place)

none_of : (a b c : Bool) → c ≡ false → (a && b && c) ≡ false
none_of true true c e = e
none_of true false c e = refl
none_of false b c e = refl

-- what is read of a path below a folder
walked : (folder name : List ℕ) → IsText folder → part_of (folder ++ codes "{name}") (length folder + 1) (length folder + 5) ≡ codes "name"
    → walk (folder ++ param_token ∷ []) (folder ++ codes "{name}") (folder ++ name) ((length folder + 1, length folder + 5) ∷ []) 0 0 ≡ (codes "name", name) ∷ []
walked folder name bytes called =
    let pattern : List ℕ = folder ++ param_token ∷ [] in
    let path : List ℕ = folder ++ name in
    let fixed_route : length path ≡ length folder + length name = length-append folder name in
    let tokens : length pattern ≡ length folder + 1 = length-append folder (param_token ∷ []) in
    let place : wild_from pattern (length path) 0 0 ≡ (length folder, length folder) =
    to_param folder (length path) 0 0 bytes (omega (arith, fixed_route)) ∙ pair_of (0 + length folder) (length folder) (0 + length folder) (length folder) (omega arith) (omega arith) in
    let last : ltb (length folder + 1) (length pattern) ≡ false = grind (arith, nat_tests, tokens) in
    let stop : wild_stop pattern (length folder) path (length folder) ≡ length path =
    ap (λ (v : Bool). cond v ((length folder + length (seeks.segment (drop (length folder) path))) - length (seeks.segment (drop (length folder + 1) pattern))) (length path))
    (none_of (ltb (length folder) (length pattern)) (get_or pattern (length folder) 0 == param_token) (ltb (length folder + 1) (length pattern)) last) in
    let read : part_of path (length folder) (wild_stop pattern (length folder) path (length folder)) ≡ name =
    ap (λ (end : ℕ). part_of path (length folder) end) stop ∙ rest_part folder name in
    let from : part_of path (wild_from pattern (length path) 0 0).1 (wild_stop pattern (wild_from pattern (length path) 0 0).0 path (wild_from pattern (length path) 0 0).1) ≡ name =
    ap (λ (w : ℕ × ℕ). part_of path w.1 (wild_stop pattern w.0 path w.1)) place ∙ read in
    λ i. (called i, from i) ∷ []

named_in : (folder path name : List ℕ) → segment_below folder path ≡ Some name → path ≡ folder ++ name
named_in folder path name is = by (bytes_eq (take (length folder) path) folder) refl is
  where
    left : List ℕ
    left = drop (length folder) path

    one : (v : Bool) → (if v then Some left else None) ≡ Some name → left ≡ name
    one true e = ap (λ (o : Option (List ℕ)). unwrap_or o left) e
    one false e = absurd cc

    by : (v : Bool) → bytes_eq (take (length folder) path) folder ≡ v → segment (if v then Some left else None) ≡ Some name → path ≡ folder ++ name
    by true e s =
        sym (take-append-drop (length folder) path)
        ∙ ap (λ (l : List ℕ). l ++ left) ((bytes_eq-Decides (take (length folder) path) folder).0 e)
        ∙ ap (λ (l : List ℕ). folder ++ l) (one (is_segment left) s)
    by false e s = absurd cc

module _ (folder : List ℕ) (kind : Kind)
    (walks : (name : List ℕ) → walk (below folder kind).1.pattern (below folder kind).1.text (folder ++ name) (below folder kind).1.names 0 0 ≡ (codes "name", name) ∷ [])
    (texts : (name : List ℕ) → IsUtf8 (folder ++ name) → IsUtf8 name) where
  folder_routed : (path : List ℕ) → IsUtf8 path → (segment_below folder path ≡ None → request_at path ≡ Refused NotFound) → ((name : List ℕ) → segment_below folder path ≡ Some name → request_for kind name ≡ request_at path)
      → Routed path (found (below folder kind).1 (segment_below folder path))
  folder_routed path text none some = by (segment_below folder path) refl
    where
      by : (o : Option (List ℕ)) → segment_below folder path ≡ o → Routed path (found (below folder kind).1 o)
      by None e = none e
      by (Some name) e =
          let joins : path ≡ folder ++ name = named_in folder path name e in
          let walked : walk (below folder kind).1.pattern (below folder kind).1.text path (below folder kind).1.names 0 0 ≡ (codes "name", name) ∷ [] =
          ap (λ (l : List ℕ). walk (below folder kind).1.pattern (below folder kind).1.text l (below folder kind).1.names 0 0) joins ∙ walks name in (
            subst AllText (sym walked) (plain_is_text (codes "name") refl, texts name (subst IsUtf8 joins text), tt),
            ap (λ (l : List (List ℕ × List ℕ)). request_for kind (unwrap_or (named (codes "name") l) [])) walked ∙ some name e,
          )

domain_routed : (path : List ℕ) → IsUtf8 (47 ∷ 100 ∷ path) → Routed (47 ∷ 100 ∷ path) (seek 0 (step 100 (step 47 routes)) path)
domain_routed path text =
    subst (Routed (47 ∷ 100 ∷ path)) (sym (folder_row (codes "omain/") (below (codes "/domain/") Domain).1 path (is_text (codes "omain/") refl)))
    (folder_routed (codes "/domain/") Domain (λ name. walked (codes "/domain/") name (is_text (codes "/domain/") refl) refl)
    (λ name all. IsUtf8-drop (codes "/domain/" ++ name) 8 all (IsCharBoundary-after_ascii (codes "/domain/" ++ name) 7 all (omega arith) (omega arith)))
    (47 ∷ 100 ∷ path) text (λ e. rw e refl) (λ name e. rw e refl))

entity_routed : (path : List ℕ) → IsUtf8 (47 ∷ 101 ∷ path) → Routed (47 ∷ 101 ∷ path) (seek 0 (step 101 (step 47 routes)) path)
entity_routed path text =
    subst (Routed (47 ∷ 101 ∷ path)) (sym (folder_row (codes "ntity/") (below (codes "/entity/") Entity).1 path (is_text (codes "ntity/") refl)))
    (folder_routed (codes "/entity/") Entity (λ name. walked (codes "/entity/") name (is_text (codes "/entity/") refl) refl)
    (λ name all. IsUtf8-drop (codes "/entity/" ++ name) 8 all (IsCharBoundary-after_ascii (codes "/entity/" ++ name) 7 all (omega arith) (omega arith)))
    (47 ∷ 101 ∷ path) text (λ e. rw e refl) (λ name e. rw e refl))

nameserver_routed : (path : List ℕ) → IsUtf8 (47 ∷ 110 ∷ path) → Routed (47 ∷ 110 ∷ path) (seek 0 (step 110 (step 47 routes)) path)
nameserver_routed path text =
    subst (Routed (47 ∷ 110 ∷ path)) (sym (folder_row (codes "ameserver/") (below (codes "/nameserver/") Nameserver).1 path (is_text (codes "ameserver/") refl)))
    (folder_routed (codes "/nameserver/") Nameserver (λ name. walked (codes "/nameserver/") name (is_text (codes "/nameserver/") refl) refl)
    (λ name all. IsUtf8-drop (codes "/nameserver/" ++ name) 12 all (IsCharBoundary-after_ascii (codes "/nameserver/" ++ name) 11 all (omega arith) (omega arith)))
    (47 ∷ 110 ∷ path) text (λ e. rw e refl) (λ name e. rw e refl))

help_routed : (path : List ℕ) → Routed (47 ∷ 104 ∷ path) (seek 0 (step 104 (step 47 routes)) path)
help_routed path = subst (Routed (47 ∷ 104 ∷ path)) (sym (whole_row (codes "elp") (fixed_route (codes "/help") Help).1 path (is_text (codes "elp") refl))) (by (bytes_eq path (codes "elp")) refl)
  where
    by : (v : Bool) → bytes_eq path (codes "elp") ≡ v → Routed (47 ∷ 104 ∷ path) (cond v (Some (fixed_route (codes "/help") Help).1) None)
    by true e = (tt, rw e refl)
    by false e = rw e refl

-- a path whose first byte behind the slash is of no route
no_folder : (b : ℕ) (path : List ℕ) → (100 == b) ≡ false → (101 == b) ≡ false → (104 == b) ≡ false → (110 == b) ≡ false → Routed (47 ∷ b ∷ path) (seek 0 (step b (step 47 routes)) path)
no_folder b path d e h n =
    let domain : nat_eq b 100 ≡ false = grind (arith, nat_tests) in
    let entity : nat_eq b 101 ≡ false = grind (arith, nat_tests) in
    let help : nat_eq b 104 ≡ false = grind (arith, nat_tests) in
    let nameserver : nat_eq b 110 ≡ false = grind (arith, nat_tests) in
    let none : seek 0 (step b (step 47 routes)) path ≡ None = rw (d, e, h, n) (no_row 0 path) in
    subst (Routed (47 ∷ b ∷ path)) (sym none) (rw (domain, entity, help, nameserver) (refl {a = Refused NotFound}))

-- a byte is this one or another
either : (a b : ℕ) (at : ℕ → Type 0) → (b ≡ a → at a) → ((a == b) ≡ false → at b) → at b
either a b at here there = by (a == b) refl
  where
    by : (v : Bool) → (a == b) ≡ v → at b
    by true is =
        let same : b ≡ a = grind (arith, nat_tests) in
        subst at (sym same) (here same)
    by false is = there is

behind_slash : (b : ℕ) (path : List ℕ) → IsUtf8 (47 ∷ b ∷ path) → Routed (47 ∷ b ∷ path) (seek 0 (step b (step 47 routes)) path)
behind_slash b path text =
    let at : ℕ → Type 0 = λ c. Routed (47 ∷ c ∷ path) (seek 0 (step c (step 47 routes)) path) in
    let told : (c : ℕ) → b ≡ c → IsUtf8 (47 ∷ c ∷ path) = λ c same. subst (λ (c : ℕ). IsUtf8 (47 ∷ c ∷ path)) same text in
    either 100 b at (λ same. domain_routed path (told 100 same))
    (λ d. either 101 b at (λ same. entity_routed path (told 101 same))
    (λ e. either 104 b at (λ same. help_routed path)
    (λ h. either 110 b at (λ same. nameserver_routed path (told 110 same)) (no_folder b path d e h))))

-- a path without a slash at its front
no_slash : (b : ℕ) (path : List ℕ) → (47 == b) ≡ false → Routed (b ∷ path) (seek 0 (step b routes) path)
no_slash b path is =
    let slash : nat_eq b 47 ≡ false = grind (arith, nat_tests) in
    let none : seek 0 (step b routes) path ≡ None = rw is (no_row 0 path) in
    subst (Routed (b ∷ path)) (sym none) (rw slash (refl {a = Refused NotFound}))

with_slash : (path : List ℕ) → IsUtf8 (47 ∷ path) → Routed (47 ∷ path) (seek 0 (step 47 routes) path)
unfolding seek
with_slash [] text = refl
with_slash (b ∷ path) text = subst (Routed (47 ∷ b ∷ path)) (sym (next_byte (step 47 routes) b path refl refl)) (behind_slash b path text)

pub routed : (path : List ℕ) → IsUtf8 path → Routed path (first routes path)
unfolding seek
routed [] text = refl
routed (b ∷ path) text =
    subst (Routed (b ∷ path)) (sym (next_byte routes b path refl refl))
    (either 47 b (λ (c : ℕ). Routed (c ∷ path) (seek 0 (step c routes) path)) (λ same. with_slash path (subst (λ (c : ℕ). IsUtf8 (c ∷ path)) same text)) (no_slash b path))

get_token : IsToken (codes "GET")
unfolding is_token_byte
get_token = (omega arith, each)
  where
    each : (k d : ℕ) → k < 3 → is_token_byte (get_or (codes "GET") k d) ≡ true
    each zero d h = refl
    each (suc zero) d h = refl
    each (suc (suc zero)) d h = refl
    each (suc (suc (suc k))) d h = absurd (omega (arith, h))

-- what is no token isn't GET
pub no_token : (method : List ℕ) → ¬ (IsToken method) → false ≡ bytes_eq method (codes "GET")
no_token method lacks = by (bytes_eq method (codes "GET")) refl
  where
    by : (v : Bool) → bytes_eq method (codes "GET") ≡ v → false ≡ v
    by true e = absurd (lacks (subst IsToken (sym ((bytes_eq-Decides method (codes "GET")).0 e)) get_token))
    by false e = refl

pub no_route : (path : List ℕ) → IsUtf8 path → first routes path ≡ None → request_at path ≡ Refused NotFound
no_route path text none = subst (Routed path) none (routed path text)

pub by_route : (path : List ℕ) (r : RouteOf Kind) → IsUtf8 path → first routes path ≡ Some r → Routed path (Some r)
by_route path r text found = subst (Routed path) found (routed path text)

-- the name that is read is the one that the route says
pub name_read : (o : Option (Bor (List ℕ))) (other : Bor (List ℕ)) (got : Option (List ℕ)) → other.now ≡ [] → MatchOption o (got ≡ None) (λ name. got ≡ Some name.now) → (unwrap_or o other).now ≡ unwrap_or got []
name_read None other got empty is = empty ∙ sym (ap (λ (g : Option (List ℕ)). unwrap_or g []) is)
name_read (Some name) other got empty is = sym (ap (λ (g : Option (List ℕ)). unwrap_or g []) is)
