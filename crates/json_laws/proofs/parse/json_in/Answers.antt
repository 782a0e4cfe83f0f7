use Rattle.std.proofs.lemmas.Bool.{iff_false}
use Rattle.json_laws.proofs.Json.{json_in-text, json_in-none}
use Rattle.json_laws.proofs.parse.json_in.Goals as goal

pub returns-in-Ok : goal.returns-in-Ok
returns-in-Ok c = json_in-text c.args.bytes.now _ c.in-Ok.ensures.ok.0 c.in-Ok.ensures.ok.1

pub returns-else-is_memory : goal.returns-else-is_memory
returns-else-is_memory c = json_in-none c.args.bytes.now (c.in-Err.ensures.err (λ memory. iff_false c.is_memory.ensures c.if-is_memory.false memory))
