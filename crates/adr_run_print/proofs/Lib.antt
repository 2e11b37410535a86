mod PlainBytes
mod PrintLaws
