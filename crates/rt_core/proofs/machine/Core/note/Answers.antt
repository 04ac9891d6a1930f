use Rattle.std.proofs.Common.{length, sym, ap, ◌∙◌, subst}
use Rattle.rt_model.specs.Parts.{call_of}
use Rattle.rt_core.specs.Report.{call_note, IsNoteWithin}
use Rattle.rt_core.proofs.Notes.{note_within}
use Rattle.rt_core.proofs.machine.Core.note.Goals as goal

pub returns-clause-note : goal.returns-clause-note
returns-clause-note c = c.call_note.ensures ∙ ap (call_note c.args.self.now.state c.args.t) (c.call.ensures.call ∙ ap call_of c.thread-thread.ensures.part)

pub returns-clause-within : goal.returns-clause-within
returns-clause-within c =
    let s = c.args.self.now.state in
    subst (IsNoteWithin (length s.threads) (length s.locks)) (sym (returns-clause-note c)) (note_within s c.args.self.now.made c.args.t c.thread-thread.ensures.lawful)
