use Rattle.std.proofs.{Common.subst, lemmas.Result.{IfErr-weaker, err_from_is_err_and, on_ok_weaker}}
use Rattle.std.specs.{Io.KnownBytes.Appends, List.flat_map}
use Rattle.zonefile.specs.ZoneText.{StopsWithin, delegation_text, glue_text}
use Rattle.zonefile.proofs.WriteLemmas.{all_written, delegations_begun, glue_begun, soa_begun}
use Rattle.zonefile.proofs.zone.write_zone.Goals as goal

pub returns-in_err-write_soa-clause-begun : goal.returns-in_err-write_soa-clause-begun
returns-in_err-write_soa-clause-begun g c =
    let p = err_from_is_err_and c.from_residual.result c.from_residual.ensures.1 in
    rw (p.1, p.2) (soa_begun c.args.policy.now c.args.serial c.args.zone.now _ _ _ c.in_err-write_soa.ensures.begun)

pub returns-in_err-write_all-clause-begun : goal.returns-in_err-write_all-clause-begun
returns-in_err-write_all-clause-begun g c =
    let p = err_from_is_err_and c.from_residual-in_err-write_all.result c.from_residual-in_err-write_all.ensures.1 in
    rw (p.1, p.2) (delegations_begun c.args.policy.now c.args.serial c.args.zone.now _ _ _ _ c.in_ok-write_soa.ensures.written
    (subst (StopsWithin _ _ _) (λ i. flat_map (delegation_text (c.ttl_of-ttl.ensures i)) (c.as_slice.ensures i)) c.in_err-write_all.ensures.begun))

pub returns-clause-written : goal.returns-clause-written
returns-clause-written g c = on_ok_weaker c.write_all-2.result (λ wrote.
    all_written c.args.policy.now c.args.serial c.args.zone.now _ _ _ _ c.in_ok-write_soa.ensures.written
    (subst (Appends _ _) (λ i. flat_map (delegation_text (c.ttl_of-ttl.ensures i)) (c.as_slice.ensures i)) c.in_ok-write_all.ensures.written)
    (subst (Appends _ _) (λ i. flat_map (glue_text (c.ttl_of-ttl.ensures i)) (c.as_slice-2.ensures i)) wrote)) c.write_all-2.ensures.written

pub returns-clause-begun : goal.returns-clause-begun
returns-clause-begun g c = IfErr-weaker c.write_all-2.result _ _ (λ fault begun.
    glue_begun c.args.policy.now c.args.serial c.args.zone.now fault _ _ _ _ c.in_ok-write_soa.ensures.written
    (subst (Appends _ _) (λ i. flat_map (delegation_text (c.ttl_of-ttl.ensures i)) (c.as_slice.ensures i)) c.in_ok-write_all.ensures.written)
    (subst (StopsWithin fault _ _) (λ i. flat_map (glue_text (c.ttl_of-ttl.ensures i)) (c.as_slice-2.ensures i)) begun)) c.write_all-2.ensures.begun
