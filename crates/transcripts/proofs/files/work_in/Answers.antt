use Rattle.std.proofs.Common.{Result, Ok, Err, IfOk}
use Rattle.sqlite.specs.Files.{file_state, image_of}
use Rattle.sqltables.proofs.FoundLemmas.{found_in_files}
use Rattle.transcripts.proofs.files.work_in.Goals as goal

-- what two clauses say of a value together
both : {T E : Type 0} (r : Result T E) (P Q R : T → Type 0) → ((x : T) → P x → Q x → R x) → IfOk r P → IfOk r Q → IfOk r R
both (Ok x) P Q R f p q = f x p q
both (Err e) P Q R f p q = p

pub work_if_opened-requires : goal.work_if_opened-requires
work_if_opened-requires g c =
    both c.open_files.result _ _ _
    (λ conn opened found. found_in_files (image_of g.D.Disk c.args.files) (file_state conn) opened (λ clean. let it = found clean in record { holds = it.holds; reads = it.reads }))
    c.open_files.ensures.opened c.open_files.ensures.found
