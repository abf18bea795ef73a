-- Want of memory, as faults: there is one of each.
use Rattle.rga_ops.specs.Memory.{out_of_memory}
use Rattle.mg_session.specs.declared.fault.SessionFault.{SessionFault}
use Rattle.mg_session.specs.declared.fault.SessionFault.TheVariants as sessionFault
use Rattle.mg_session.specs.declared.course.Course.{Course}
use Rattle.mg_session.specs.declared.course.Course.TheVariants as course

abbrev pub SessionMemory : SessionFault
SessionMemory = sessionFault.Memory out_of_memory

abbrev pub CourseMemory : Course
CourseMemory = course.NoMemory out_of_memory
