-- How a session stands, and what it is answered by.
use Rattle.std.specs.Prelude.{Bool, true, false, Option, Some, None, Result, Ok, Err, if◌then◌else◌}
use Rattle.std.specs.Result.{result_and}
use Rattle.mg_workspace.specs.declared.failures.Failure.{Failure}
use Rattle.mg_session.specs.declared.course.Course.{Course}
use Rattle.mg_session.specs.declared.course.Course.TheVariants.{On, Quit, NoKeys, NoScreen, NoMemory}
use Rattle.mg_session.specs.declared.fault.SessionFault.{SessionFault}
use Rattle.mg_session.specs.declared.fault.SessionFault.TheVariants.{Keys, Screen, Failed}
use Rattle.mg_session.specs.Memory.{SessionMemory as Memory}

-- it goes on
abbrev pub is_on : Course → Bool
is_on On = true
is_on course = false

abbrev pub SessionAnswer : Type 0
SessionAnswer = Result (Unit {0}) SessionFault

-- what a session that stands so is answered by
abbrev pub course_answer : Course → SessionAnswer
course_answer On = Ok tt
course_answer Quit = Ok tt
course_answer NoKeys = Err Keys
course_answer NoScreen = Err Screen
course_answer (NoMemory _) = Err Memory

-- what a save or an exchange is answered by that failed, and stands
abbrev pub failure_answer : Option Failure → SessionAnswer
failure_answer None = Ok tt
failure_answer (Some why) = Err (Failed why)

-- what a session is answered by in the end, which may be strict; its own fault comes first
abbrev pub session_answer : Bool → Option Failure → Course → SessionAnswer
session_answer strict first course = result_and (course_answer course) (if strict then failure_answer first else Ok tt)
