use Rattle.std.proofs.Common.{arith, length-take}
use Rattle.crack_session.proofs.line.read_line.Goals as goal

pub slice_bounds-parse_long-end : goal.slice_bounds-parse_long-end
slice_bounds-parse_long-end c = let cut = length-take 200 c.without_return-line.result.now in omega (arith, cut, c.if-line-gt-LINE_BYTES.true)
