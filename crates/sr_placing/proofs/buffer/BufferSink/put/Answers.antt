use Rattle.std.proofs.Common.{[], subst, sym}
use Rattle.sr_placing.specs.Sinking.{FileState, FilePuts}
use Rattle.sr_placing.specs.SinkLaws.{file_joined, file_kept}
use Rattle.sr_placing.proofs.buffer.BufferSink.put.Goals as goal

pub returns : goal.returns
returns g c =
    let keeps : FilePuts c.make_room.new.self (g.D.Desk.outside c.make_room.new.desk) c.keep.new.self (g.D.Desk.outside c.make_room.new.desk) c.args.bytes.now =
    subst (λ (t : FileState). FilePuts c.make_room.new.self (g.D.Desk.outside c.make_room.new.desk) t (g.D.Desk.outside c.make_room.new.desk) c.args.bytes.now) (sym c.keep.ensures)
    (file_kept c.make_room.new.self (g.D.Desk.outside c.make_room.new.desk) c.args.bytes.now) in
    file_joined c.args.self.now (g.D.Desk.outside c.args.desk.now) c.make_room.new.self (g.D.Desk.outside c.make_room.new.desk) c.keep.new.self (g.D.Desk.outside c.make_room.new.desk) [] c.args.bytes.now
    c.make_room.ensures.puts keeps
