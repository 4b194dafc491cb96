mod FilesAsk
mod AfterRun
