-- The built-in header: its types, constants and functions in order, stated once, and how they are
-- written.
use Prim.Native.String.{String}
use Rattle.std.specs.Prelude.{ℕ, List, [], ◌∷◌, ◌++◌, Option, None, Some, codes, pos}
use Rattle.nwq_value.specs.declared.value.Ty.{Ty}
use Rattle.nwq_value.specs.declared.value.Ty.TheVariants.{Void as VoidTy, Int as IntTy, Text as TextTy, Object as ObjectTy, Effect as EffectTy, Event as EventTy, Action as ActionTy, Refused}
use Rattle.nwq_value.specs.declared.engine.Const.{Const}
use Rattle.nwq_value.specs.declared.engine.Const.TheVariants.{Int as IntConst, SelfObject}
use Rattle.nwq_value.specs.declared.engine.Role.{Role}
use Rattle.nwq_value.specs.declared.engine.Role.TheVariants.{Built, Pure}

-- a type with the word that the header writes for it
pub record Word : Type 0 where
  pub text : List ℕ
  pub ty : Ty

-- a parameter: its default, where it has one, as a constant and as it is written
pub record HeaderParam : Type 0 where
  pub word : Word
  pub name : List ℕ
  pub default : Option Const
  pub written : List ℕ

-- a function, and the role of its row in the engine's table, where it has one
pub record HeaderRoutine : Type 0 where
  pub word : Word
  pub name : List ℕ
  pub params : List HeaderParam
  pub role : Option Role

abbrev pub void : Word
void = record { text = codes "void"; ty = VoidTy }

abbrev pub int : Word
int = record { text = codes "int"; ty = IntTy }

abbrev pub string : Word
string = record { text = codes "string"; ty = TextTy }

abbrev pub object : Word
object = record { text = codes "object"; ty = ObjectTy }

abbrev pub effect : Word
effect = record { text = codes "effect"; ty = EffectTy }

abbrev pub event : Word
event = record { text = codes "event"; ty = EventTy }

abbrev pub action : Word
action = record { text = codes "action"; ty = ActionTy }

abbrev pub float : Word
float = record { text = codes "float"; ty = Refused }

abbrev pub routine : Word → String → List HeaderParam → Option Role → HeaderRoutine
routine word name params role = record {
  word = word;
  name = codes name;
  params = params;
  role = role;
}

-- a parameter without default, an int with its default as written and as a number, and an object
-- that is the caller where none is given
abbrev pub of : Word → String → HeaderParam
of word name = record { word = word; name = codes name; default = None; written = [] }

abbrev pub int_or : String → String → ℕ → HeaderParam
int_or name written n = record {
  word = int;
  name = codes name;
  default = Some (IntConst (pos n));
  written = codes written;
}

abbrev pub self_or : String → HeaderParam
self_or name = record {
  word = object;
  name = codes name;
  default = Some SelfObject;
  written = codes "OBJECT_SELF";
}

-- the functions, numbered from 0. A row of the engine's table is Built with the function's own
-- number, or Pure with the number of the hook that answers; a function without a row is called as
-- those of other headers are.
unfoldable pub header_routines : List HeaderRoutine
header_routines =
    routine int "Random" (of int "nMaxInteger" ∷ []) (Some (Built 0)) ∷
    routine void "PrintString" (of string "sString" ∷ []) (Some (Built 1)) ∷
    routine void "PrintFloat"
    (of float "fFloat" ∷ int_or "nWidth" "18" 18 ∷ int_or "nDecimals" "9" 9 ∷ []) None ∷
    routine string "FloatToString"
    (of float "fFloat" ∷ int_or "nWidth" "18" 18 ∷ int_or "nDecimals" "9" 9 ∷ []) None ∷
    routine void "PrintInteger" (of int "nInteger" ∷ []) (Some (Built 4)) ∷
    routine void "PrintObject" (of object "oObject" ∷ []) (Some (Built 5)) ∷
    routine void "AssignCommand" (of object "oActionSubject" ∷ of action "aActionToAssign" ∷ [])
    (Some (Built 6)) ∷
    routine void "DelayCommand" (of int "nMilliseconds" ∷ of action "aActionToDelay" ∷ [])
    (Some (Built 7)) ∷
    routine void "ExecuteScript" (of string "sScript" ∷ self_or "oTarget" ∷ []) (Some (Built 8)) ∷
    routine void "ClearAllActions" (int_or "nClearCombatState" "FALSE" 0 ∷ []) (Some (Built 9)) ∷
    routine void "ActionDoCommand" (of action "aActionToDo" ∷ []) (Some (Built 10)) ∷
    routine void "ActionWait" (of int "nMilliseconds" ∷ []) (Some (Built 11)) ∷
    routine void "ActionSpeakString" (of string "sStringToSpeak" ∷ int_or "nTalkVolume" "0" 0 ∷ [])
    (Some (Built 12)) ∷
    routine void "SpeakString" (of string "sStringToSpeak" ∷ int_or "nTalkVolume" "0" 0 ∷ [])
    (Some (Built 13)) ∷
    routine object "GetObjectByTag" (of string "sTag" ∷ int_or "nNth" "0" 0 ∷ [])
    (Some (Built 14)) ∷
    routine string "GetTag" (of object "oObject" ∷ []) (Some (Built 15)) ∷
    routine int "GetIsObjectValid" (of object "oObject" ∷ []) (Some (Built 16)) ∷
    routine int "GetLocalInt" (of object "oObject" ∷ of string "sVarName" ∷ []) (Some (Built 17)) ∷
    routine void "SetLocalInt" (of object "oObject" ∷ of string "sVarName" ∷ of int "nValue" ∷ [])
    (Some (Built 18)) ∷
    routine string "GetLocalString" (of object "oObject" ∷ of string "sVarName" ∷ [])
    (Some (Built 19)) ∷
    routine void "SetLocalString"
    (of object "oObject" ∷ of string "sVarName" ∷ of string "sValue" ∷ []) (Some (Built 20)) ∷
    routine void "DeleteLocalInt" (of object "oObject" ∷ of string "sVarName" ∷ [])
    (Some (Built 21)) ∷
    routine void "DeleteLocalString" (of object "oObject" ∷ of string "sVarName" ∷ [])
    (Some (Built 22)) ∷
    routine void "ApplyEffectToObject"
    (of int "nDurationType" ∷ of effect "eEffect" ∷ of object "oTarget" ∷ int_or "nMilliseconds" "0" 0 ∷ []) (Some (Built 23)) ∷
    routine void "RemoveEffect" (of object "oCreature" ∷ of effect "eEffect" ∷ [])
    (Some (Built 24)) ∷
    routine effect "EffectDamage"
    (of int "nDamageAmount" ∷ int_or "nDamageType" "8" 8 ∷ int_or "nDamagePower" "0" 0 ∷ []) None ∷
    routine effect "EffectHeal" (of int "nDamageToHeal" ∷ []) None ∷
    routine void "SetCommandable" (of int "bCommandable" ∷ self_or "oTarget" ∷ []) None ∷
    routine int "abs" (of int "nValue" ∷ []) (Some (Pure 0)) ∷
    routine string "IntToString" (of int "nInteger" ∷ []) (Some (Pure 1)) ∷
    routine int "StringToInt" (of string "sNumber" ∷ []) (Some (Pure 2)) ∷
    routine string "IntToHexString" (of int "nInteger" ∷ []) (Some (Pure 3)) ∷
    routine int "GetStringLength" (of string "sString" ∷ []) (Some (Pure 4)) ∷
    routine string "GetStringLeft" (of string "sString" ∷ of int "nCount" ∷ []) (Some (Pure 5)) ∷
    routine string "GetStringRight" (of string "sString" ∷ of int "nCount" ∷ []) (Some (Pure 6)) ∷
    routine string "GetSubString" (of string "sString" ∷ of int "nStart" ∷ of int "nCount" ∷ [])
    (Some (Pure 7)) ∷
    routine string "InsertString"
    (of string "sDestination" ∷ of string "sString" ∷ of int "nPosition" ∷ []) (Some (Pure 8)) ∷
    routine string "Get2DAString" (of string "s2DA" ∷ of string "sColumn" ∷ of int "nRow" ∷ [])
    (Some (Pure 9)) ∷
    routine event "EventUserDefined" (of int "nUserDefinedEventNumber" ∷ []) (Some (Built 38)) ∷
    routine void "SignalEvent" (of object "oObject" ∷ of event "evToRun" ∷ []) (Some (Built 39)) ∷
    routine int "GetUserDefinedEventNumber" [] (Some (Built 40)) ∷
    []

abbrev pub after_equals : Option Const → List ℕ → List ℕ
after_equals None written = []
after_equals (Some c) written = codes "=" ++ written

abbrev pub param_text : HeaderParam → List ℕ
param_text p = p.word.text ++ codes " " ++ p.name ++ after_equals p.default p.written

abbrev pub params_text : List HeaderParam → List ℕ
params_text [] = []
params_text (p ∷ []) = param_text p
params_text (p ∷ ps) = param_text p ++ codes ", " ++ params_text ps

-- the lines of functions: types, names, and each default after `=`
abbrev pub routines_text : List HeaderRoutine → List ℕ
routines_text [] = []
routines_text (r ∷ rs) = r.word.text ++ codes " " ++ r.name ++ codes "(" ++ params_text r.params
    ++ codes ");\n" ++ routines_text rs

-- the line of a define
abbrev pub define_text : String → String → List ℕ
define_text name value = codes "#define " ++ codes name ++ codes " " ++ codes value ++ codes "\n"

-- a constant of type int, as written and as a number
pub record HeaderConstant : Type 0 where
  pub name : List ℕ
  pub written : List ℕ
  pub value : ℕ

abbrev pub int_constant : String → String → ℕ → HeaderConstant
int_constant name written value = record {
  name = codes name;
  written = codes written;
  value = value;
}

unfoldable pub header_constants : List HeaderConstant
header_constants =
    int_constant "TRUE" "1" 1 ∷
    int_constant "FALSE" "0" 0 ∷
    int_constant "DURATION_TYPE_INSTANT" "0" 0 ∷
    int_constant "DURATION_TYPE_TEMPORARY" "1" 1 ∷
    int_constant "DURATION_TYPE_PERMANENT" "2" 2 ∷
    []

abbrev pub constants_text : List HeaderConstant → List ℕ
constants_text [] = []
constants_text (c ∷ cs) = codes "int " ++ c.name ++ codes " = " ++ c.written ++ codes ";\n"
    ++ constants_text cs

-- the whole header: the engine's types, the constants and the functions
unfoldable pub header_text : List ℕ
header_text =
    define_text "ENGINE_NUM_STRUCTURES" "4" ++
    define_text "ENGINE_STRUCTURE_0" "effect" ++
    define_text "ENGINE_STRUCTURE_1" "event" ++
    define_text "ENGINE_STRUCTURE_2" "location" ++
    define_text "ENGINE_STRUCTURE_3" "talent" ++
    constants_text header_constants ++ routines_text header_routines
