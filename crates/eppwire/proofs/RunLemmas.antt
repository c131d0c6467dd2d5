-- What a registrar is sent over whole runs hangs on nothing that others hide.
use Rattle.std.proofs.Common.{map, ap}
use Rattle.isolation.proofs.RunLemmas.{alike-lists-tell-the-same}
use Rattle.eppwire.specs.Isolation.{AlikeListsSendTheSame, sent_text}

pub alike-lists-send-the-same : AlikeListsSendTheSame
alike-lists-send-the-same p r pairs s alike = ap (map sent_text) (alike-lists-tell-the-same p s r pairs alike)
