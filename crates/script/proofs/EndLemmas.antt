-- How a run ends.
use Rattle.std.proofs.Common.{◌≡◌, inl, inr, refl, ◌==◌, ◌++◌, ℕ, cond, List, [], Some, None, IfSome, ap, subst, ◌∙◌, append-nil}
use Rattle.std.specs.{Prelude.Option, Io.KnownBytes.{Appends, Keeps, append_known, prepend_known}}
use Rattle.policy.specs.Rules.{PolicyRules}
use Rattle.script.specs.{declared.exit.Exit.Exit, inner.Runs.{AppendsFront, EndsBehind}, Runs.EndsIn}
use Rattle.script.specs.declared.exit.Exit.TheVariants as exits
use Rattle.script.proofs.BeginLemmas.{IsFault, begun_by, fault_cut, fault_out}
use Rattle.model.specs.Registry.{Registry}

-- what was pending is written, and flushed
Appends-joined : (a b c d : Option (List ℕ)) (bs bytes : List ℕ) → Appends (append_known a []) (append_known b bs) bytes → Appends b c bs → Keeps c d → Appends a d bytes
Appends-joined None b c d bs bytes p q k = tt
Appends-joined (Some x) None c d bs bytes p q k = absurd p
Appends-joined (Some x) (Some y) None d bs bytes p q k = absurd q
Appends-joined (Some x) (Some y) (Some z) None bs bytes p q k = absurd k
Appends-joined (Some x) (Some y) (Some z) (Some w) bs bytes p q k = k ∙ q ∙ p ∙ ap (λ l. l ++ bytes) (append-nil x)

Ends-written : (exit : Exit) (p : PolicyRules) (before after : Registry) (input bs : List ℕ) (a b c d : Option (List ℕ))
    → EndsBehind p before after input a [] (append_known b bs) exit → Appends b c bs → Keeps c d → EndsIn p before after input a d exit
Ends-written exits.Done p before after input bs a b c d ends q k = (ends.0, Appends-joined a b c d bs _ ends.1 q k, ends.2)
Ends-written (exits.Script n) p before after input bs a b c d ends q k = (ends.0, Appends-joined a b c d bs _ ends.1 q k, ends.2)
Ends-written exits.File p before after input bs a b c d ends q k = fault_out exits.File p before after input a b c d bs (inl refl) ends q k
Ends-written exits.Memory p before after input bs a b c d ends q k = fault_out exits.Memory p before after input a b c d bs (inr refl) ends q k
Ends-written _ p before after input bs a b c d ends q k = absurd ends

-- what was asked of a reader with a buffer that is empty, and of a writer with nothing pending
unbuffered : (A : Type 0) (exit : Exit) (p : PolicyRules) (before after : Registry) (capacity : ℕ) (buffer pending bs : List ℕ) (o unread a b : Option (List ℕ))
    → capacity ≡ 8192 → buffer ≡ [] → o ≡ unread → pending ≡ []
    → IfSome (cond (capacity == 0) None (prepend_known buffer o)) (λ input. A → EndsBehind p before after input a pending (append_known b bs) exit)
    → IfSome (prepend_known [] unread) (λ input. A → EndsBehind p before after input a [] (append_known b bs) exit)
unbuffered A exit p before after capacity buffer pending bs o unread a b room empty same none ends =
    let P : List ℕ → List ℕ → Type 0 = λ l input. A → EndsBehind p before after input a l (append_known b bs) exit in
    let first : IfSome (prepend_known buffer o) (P pending) = subst (λ (n : ℕ). IfSome (cond (n == 0) None (prepend_known buffer o)) (P pending)) room ends in
    let second : IfSome (prepend_known [] o) (P pending) = subst (λ (l : List ℕ). IfSome (prepend_known l o) (P pending)) empty first in
    let third : IfSome (prepend_known [] unread) (P pending) = subst (λ (r : Option (List ℕ)). IfSome (prepend_known [] r) (P pending)) same second in
    subst (λ (l : List ℕ). IfSome (prepend_known [] unread) (P l)) none third

all_written : (A : Type 0) (exit : Exit) (p : PolicyRules) (before after : Registry) (o a b c d : Option (List ℕ)) (bs : List ℕ)
    → IfSome (prepend_known [] o) (λ input. A → EndsBehind p before after input a [] (append_known b bs) exit) → Appends b c bs → Keeps c d
    → IfSome o (λ input. A → EndsIn p before after input a d exit)
all_written A exit p before after None a b c d bs ends q k = tt
all_written A exit p before after (Some input) a b c d bs ends q k = λ (given : A). Ends-written exit p before after input bs a b c d (ends given) q k

-- all lines were answered, or the run stopped; and all that was pending is written
pub Ends-buffered : (A : Type 0) (exit : Exit) (p : PolicyRules) (before after : Registry) (capacity : ℕ) (buffer pending bs : List ℕ) (o unread a b c d : Option (List ℕ))
    → capacity ≡ 8192 → buffer ≡ [] → o ≡ unread → pending ≡ []
    → IfSome (cond (capacity == 0) None (prepend_known buffer o)) (λ input. A → EndsBehind p before after input a pending (append_known b bs) exit)
    → Appends b c bs → Keeps c d → IfSome unread (λ input. A → EndsIn p before after input a d exit)
Ends-buffered A exit p before after capacity buffer pending bs o unread a b c d room empty same none ends q k =
    all_written A exit p before after unread a b c d bs (unbuffered A exit p before after capacity buffer pending bs o unread a b room empty same none ends) q k

-- the same, and then the flush fails
flush_failed : (A : Type 0) (exit end : Exit) (p : PolicyRules) (before after : Registry) (o a b c d : Option (List ℕ)) (bs : List ℕ) → IsFault end
    → IfSome (prepend_known [] o) (λ input. A → EndsBehind p before after input a [] (append_known b bs) exit) → Appends b c bs → Keeps c d
    → IfSome o (λ input. A → EndsIn p before after input a d end)
flush_failed A exit end p before after None a b c d bs fault ends q k = tt
flush_failed A exit end p before after (Some input) a b c d bs fault ends q k =
    λ (given : A). fault_out end p before after input a b c d bs fault (begun_by exit p before after input a (append_known b bs) (ends given)) q k

pub Ends-unflushed : (A : Type 0) (exit end : Exit) (p : PolicyRules) (before after : Registry) (capacity : ℕ) (buffer pending bs : List ℕ) (o unread a b c d : Option (List ℕ)) → IsFault end
    → capacity ≡ 8192 → buffer ≡ [] → o ≡ unread → pending ≡ []
    → IfSome (cond (capacity == 0) None (prepend_known buffer o)) (λ input. A → EndsBehind p before after input a pending (append_known b bs) exit)
    → Appends b c bs → Keeps c d → IfSome unread (λ input. A → EndsIn p before after input a d end)
Ends-unflushed A exit end p before after capacity buffer pending bs o unread a b c d fault room empty same none ends q k =
    flush_failed A exit end p before after unread a b c d bs fault (unbuffered A exit p before after capacity buffer pending bs o unread a b room empty same none ends) q k

-- or what was pending can't be written to its end
write_failed : (A : Type 0) (exit end : Exit) (p : PolicyRules) (before after : Registry) (o a b c : Option (List ℕ)) (bs sent : List ℕ) → IsFault end
    → IfSome (prepend_known [] o) (λ input. A → EndsBehind p before after input a [] (append_known b bs) exit) → Appends a b sent → AppendsFront b c bs
    → IfSome o (λ input. A → EndsIn p before after input a c end)
write_failed A exit end p before after None a b c bs sent fault ends s front = tt
write_failed A exit end p before after (Some input) a b c bs sent fault ends s front =
    λ (given : A). fault_cut end p before after input a b c bs sent fault (begun_by exit p before after input a (append_known b bs) (ends given)) s front

pub Ends-unwritten : (A : Type 0) (exit end : Exit) (p : PolicyRules) (before after : Registry) (capacity : ℕ) (buffer pending bs sent : List ℕ) (o unread a b c : Option (List ℕ)) → IsFault end
    → capacity ≡ 8192 → buffer ≡ [] → o ≡ unread → pending ≡ []
    → IfSome (cond (capacity == 0) None (prepend_known buffer o)) (λ input. A → EndsBehind p before after input a pending (append_known b bs) exit)
    → Appends a b sent → AppendsFront b c bs → IfSome unread (λ input. A → EndsIn p before after input a c end)
Ends-unwritten A exit end p before after capacity buffer pending bs sent o unread a b c fault room empty same none ends s front =
    write_failed A exit end p before after unread a b c bs sent fault (unbuffered A exit p before after capacity buffer pending bs o unread a b room empty same none ends) s front
