use Rattle.crack_serials.proofs.ShareLemmas.{shares-is}
use Rattle.crack_serials.proofs.shares.share.Goals as goal

pub returns : goal.returns
returns c = rw (c.serials_below.ensures, c.serials_below-2.ensures) (shares-is c.args.map c.args.first.0 c.args.count c.requires)
