-- Exit statuses.
use Rattle.std.specs.Prelude.{ℕ}
use Rattle.rt_base.specs.declared.ended.Ended.{Ended}
use Rattle.rt_base.specs.declared.ended.Ended.TheVariants as ends
use Rattle.rt_top.specs.declared.status.Status.{Status}
use Rattle.rt_top.specs.declared.status.Status.TheVariants.{Done, Usage, BadScript, Stuck, Limit, ReadFault, WriteFault, NoMemory, TooLong, Illegal}

-- the exit status of each answer
abbrev pub status_number : Status → ℕ
status_number Done = 0
status_number Usage = 2
status_number BadScript = 3
status_number Stuck = 4
status_number Limit = 5
status_number ReadFault = 6
status_number WriteFault = 7
status_number NoMemory = 8
status_number TooLong = 9
status_number Illegal = 10

-- the answer of a run that was printed whole
abbrev pub status_of : Ended → Status
status_of ends.Done = Done
status_of ends.Stuck = Stuck
status_of ends.Limit = Limit
