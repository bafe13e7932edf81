-- What may go to another thread: a struct, where each of its fields may.
use denote.Param.Send.{AllSend, IsSend, recorded_send, struct_send}
use denote.Struct.Declared.{Declared, row, shape}
use denote.Struct.Field.{rows}

-- a struct goes where each of its fields does
pub fields_send : (T : Declared) → AllSend (rows T.parts) → IsSend (row T)
fields_send T sent = recorded_send _ _ _ T.to_one (struct_send (shape T) sent)
