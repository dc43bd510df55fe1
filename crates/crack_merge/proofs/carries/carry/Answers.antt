use Rattle.crack_state.specs.Steps.{ceiling_of}
use Rattle.crack_merge.proofs.Ending.{carries_by, MayEnd-by, EvictsOver-by, KeepsRest-by}
use Rattle.crack_merge.proofs.carries.carry.Goals as goal

pub returns-clause-ends : goal.returns-clause-ends
returns-clause-ends c = MayEnd-by (ceiling_of c.args.ceiling) c.carry_up.result c.carry_up.new.self c.carry_up.ensures.ends

pub returns-clause-evicts : goal.returns-clause-evicts
returns-clause-evicts c = EvictsOver-by (ceiling_of c.args.ceiling) c.carry_up.result c.carry_up.new.self c.carry_up.ensures.ends

pub returns-clause-carries : goal.returns-clause-carries
returns-clause-carries c = carries_by (ceiling_of c.args.ceiling) c.carry_up.result c.args.carrying.now c.carry_up.new.self c.carry_up.ensures.pushes c.carry_up.ensures.ends

pub returns-clause-column_room : goal.returns-clause-column_room
returns-clause-column_room c = (KeepsRest-by (ceiling_of c.args.ceiling) c.args.carrying.now c.carry_up.new.self c.carry_up.ensures.pushes).column_room

pub returns-clause-in_room : goal.returns-clause-in_room
returns-clause-in_room c = (KeepsRest-by (ceiling_of c.args.ceiling) c.args.carrying.now c.carry_up.new.self c.carry_up.ensures.pushes).in_room

pub returns-clause-pending_in : goal.returns-clause-pending_in
returns-clause-pending_in c = (KeepsRest-by (ceiling_of c.args.ceiling) c.args.carrying.now c.carry_up.new.self c.carry_up.ensures.pushes).pending_in

pub returns-clause-cells : goal.returns-clause-cells
returns-clause-cells c = (KeepsRest-by (ceiling_of c.args.ceiling) c.args.carrying.now c.carry_up.new.self c.carry_up.ensures.pushes).cells
