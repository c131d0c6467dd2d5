use Rattle.std.proofs.Common.{true, false, rules}
use Rattle.server.proofs.ConnectionLemmas.{begun, connection_follows}
use Rattle.server.proofs.connection.serve_one.Goals as goal

pub returns-then-not-begins_frame-clause-served : goal.returns-then-not-begins_frame-clause-served
returns-then-not-begins_frame-clause-served g c =
    let read = c.in-Ok.ensures in
    let served = c.serve_other.ensures.served in
    let input = begun false (g.R.Read.remaining c.args.reader.now) (g.R.Read.remaining c.read_to_fill.new.reader) _ c.in-Ok.count c.read_to_fill.new.buffer
    (search rules) read.bytes read.end (search rules) c.chain.ensures.bytes in
    rw served.1 (input.0, _, input.1, served.2)

pub returns-clause-served : goal.returns-clause-served
returns-clause-served g c =
    let read = c.in-Ok.ensures in
    let served = c.serve_epp.ensures.served in
    let input = begun true (g.R.Read.remaining c.args.reader.now) (g.R.Read.remaining c.read_to_fill.new.reader) _ c.in-Ok.count c.read_to_fill.new.buffer
    (search rules) read.bytes read.end (search rules) c.chain-2.ensures.bytes in
    rw served.1 (input.0, _, input.1, served.2)

pub returns-then-not-begins_frame-clause-follows : goal.returns-then-not-begins_frame-clause-follows
returns-then-not-begins_frame-clause-follows g c = connection_follows _ _ _ _ _ _ _ _ _ _ (returns-then-not-begins_frame-clause-served g c)

pub returns-clause-follows : goal.returns-clause-follows
returns-clause-follows g c = connection_follows _ _ _ _ _ _ _ _ _ _ (returns-clause-served g c)
