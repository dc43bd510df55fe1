-- A handle may go to another thread, since a core may.
use Rattle.std.specs.Prelude.{Bool, true, false}
use base.Shift.{Keyless}
use mir.Raw.{raw}
use denote.Memory.{lone}
use denote.RawPtr.{Ptr}
use denote.Struct.Struct.{exits_of}
use denote.Struct.Owning.{shape, fields, to}
use denote.Param.Send.{IsSend, AllSend, owning_send, struct_send, sendable}
use Rattle.libc.specs.Heap.{chunk-Keyless}
use Rattle.std_alloc.proofs.SendSync.{quiet, lies}
use Rattle.crack_core.specs.contracts.cores.Core as Core
use Rattle.crack_core.specs.Cores.{CoreState}
use Rattle.crack_core.proofs.Crosses.{core-send}
use Rattle.crackd_c.specs.Handles.{handle_owns}
use Rattle.crackd_c.specs.contracts.handle.TableHandle.{the_row, the_type}

owns-keyless : (y : Bool) (p : Ptr) (c : CoreState) → Keyless (handle_owns y p c)
owns-keyless true p c = (lies Core.the_row core-send p c, chunk-Keyless (raw (lone Core.the_row.mir)) p)
owns-keyless false p c = tt

pub send : IsSend the_row
send =
    let all : AllSend (fields the_type) = (search sendable, (search sendable, tt)) in
    owning_send the_type all (λ d. owns-keyless d.is_open d.at d.core)
    (λ k. quiet (to the_type) (exits_of k (fields the_type)) ((struct_send (shape the_type) all).leaving k))
