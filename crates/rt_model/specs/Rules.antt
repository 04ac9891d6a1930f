-- Each kind of event has one rule.
use Rattle.rt_model.specs.declared.event.Event.{Event}
use Rattle.rt_model.specs.declared.event_kind.EventKind.{EventKind}
use Rattle.rt_model.specs.declared.event_kind.EventKind.TheVariants as kinds
use Rattle.rt_model.specs.Parts.{ThreadPart}
use Rattle.rt_model.specs.Effect.{Touched, Around, Effect, Rule}
use Rattle.rt_model.specs.events.Acquire as acquire
use Rattle.rt_model.specs.events.Wait as waits
use Rattle.rt_model.specs.events.Release as release
use Rattle.rt_model.specs.events.Walk as walks
use Rattle.rt_model.specs.events.Readers as readers
use Rattle.rt_model.specs.events.Wakeups as wakeups
use Rattle.rt_model.specs.events.Own as owns

abbrev pub rule : EventKind → Rule
rule kinds.Fast = acquire.fast
rule kinds.Mark = acquire.mark
rule kinds.Take = acquire.take
rule kinds.Busy = acquire.busy
rule kinds.Wait = waits.wait
rule kinds.Again = waits.again
rule kinds.Leave = waits.leave
rule kinds.Free = release.free
rule kinds.Give = release.give
rule kinds.Walk = walks.walk
rule kinds.WalkEnd = walks.walkend
rule kinds.Restart = walks.restart
rule kinds.Cycle = walks.cycle
rule kinds.RIn = readers.rin
rule kinds.ROut = readers.rout
rule kinds.Unbias = readers.unbias
rule kinds.WTake = readers.wtake
rule kinds.WSleep = readers.wsleep
rule kinds.WOpen = readers.wopen
rule kinds.WWake = readers.wwake
rule kinds.State = wakeups.state
rule kinds.Sched = wakeups.sched
rule kinds.Wake = wakeups.wake
rule kinds.SetPrio = wakeups.setprio
rule kinds.Own = owns.own

-- what an event of this kind touches
abbrev pub touched : EventKind → Event → Touched
touched kind e = (rule kind).touched e

-- what it does, of this thread and with what it finds
abbrev pub effect : EventKind → Event → ThreadPart → Around → Effect
effect kind e thread found = (rule kind).effect e thread found
